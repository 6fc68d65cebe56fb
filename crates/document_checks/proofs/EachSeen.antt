-- The elements of an array where what was read is seen by a function: one more, a refusal, and the end.
use Rattle.std.proofs.Common.{◌≡◌, ◌<◌, ◌≤◌, ◌+◌, ℕ, List, [], ◌∷◌, ◌++◌, length, map, get_or, drop, Ok}
use Rattle.std.proofs.lemmas.List.{map-append, length-map}
use Rattle.toml.specs.Data.{Data}
use Rattle.toml.specs.View.{view, items_view}
use Rattle.toml.specs.declared.value.Value.{Value}
use Rattle.document_checks.specs.declared.why.ReadFault.{ReadFault}
use Rattle.document_checks.specs.Checks.{Checked, Fails, element, each}
use Rattle.document_checks.proofs.EachLemmas.{each_more, each_fails, each_ends}

module _ {A X : Type 0} (f : X → A) (check : List A → List ℕ → Data → Checked A) (path : List ℕ) (values : List Value)
    (total : Checked (List A)) (done : List X) (place : ℕ) where
  -- what is left, after the elements that are done, gives the total
  abbrev pub LeavesSeen : Type 0
  LeavesSeen = each check path (map f done) (items_view (drop place values)) ≡ total

  pub seen_more : (x : X) (value : Value) → value ≡ get_or values place value → place < length values →
      check (map f done) (element path (length done)) (view value) ≡ Ok (f x)
      → LeavesSeen → each check path (map f (done ++ x ∷ [])) (items_view (drop (place + 1) values)) ≡ total
  seen_more x value is lt passes so_far =
      rw (map-append f done (x ∷ []))
      (each_more check path values total (map f done) place (f x) value is lt (rw (length-map done f) passes) so_far)

  pub seen_fails : (e : ReadFault) (value : Value) → value ≡ get_or values place value → place < length values →
      Fails e (check (map f done) (element path (length done)) (view value)) → LeavesSeen → Fails e total
  seen_fails e value is lt fails so_far =
      each_fails check path values total (map f done) place e value is lt (rw (length-map done f) fails) so_far

  pub seen_ends : length values ≤ place → LeavesSeen → total ≡ Ok (map f done)
  seen_ends le so_far = each_ends check path values total (map f done) place le so_far
