-- One element of an array, and the ones after it.
use Rattle.std.proofs.Common.{◌≡◌, ◌<◌, ◌≤◌, ◌+◌, ℕ, List, [], ◌∷◌, ◌++◌, length, get_or, drop, Ok, refl, sym, ◌∙◌}
use Rattle.std.proofs.Math.ListN.{drop_of_length-le}
use Rattle.toml.specs.Data.{Data}
use Rattle.toml.specs.View.{view, items_view}
use Rattle.toml.specs.declared.value.Value.{Value}
use Rattle.toml.proofs.Views.{items_view-drop}
use Rattle.document_checks.specs.declared.why.ReadFault.{ReadFault}
use Rattle.document_checks.specs.declared.why.ReadFault.TheVariants as fault
use Rattle.document_checks.specs.Checks.{Checked, Fails, element, each}

module _ {A : Type 0} (check : List A → List ℕ → Data → Checked A) (path : List ℕ) (values : List Value)
    (total : Checked (List A)) (done : List A) (place : ℕ) where
  -- what is left, after the elements that are done, gives the total
  abbrev pub LeavesTotal : Type 0
  LeavesTotal = each check path done (items_view (drop place values)) ≡ total

  -- an element that passes is done
  pub each_more : (x : A) (value : Value) → value ≡ get_or values place value → place < length values →
      check done (element path (length done)) (view value) ≡ Ok x
      → LeavesTotal → each check path (done ++ x ∷ []) (items_view (drop (place + 1) values)) ≡ total
  unfolding each
  each_more x value is lt passes so_far = (rw (items_view-drop values place value lt, ← is, passes) refl) ∙ so_far

  -- an element that fails ends it
  pub each_fails : (e : ReadFault) (value : Value) → value ≡ get_or values place value → place < length values →
      Fails e (check done (element path (length done)) (view value)) → LeavesTotal → Fails e total
  unfolding each
  each_fails fault.Memory value is lt fails so_far = tt
  each_fails (fault.Bad why) value is lt fails so_far =
      sym so_far ∙ rw (items_view-drop values place value lt, ← is, fails) refl

  -- where none is left, those that are done are all
  pub each_ends : length values ≤ place → LeavesTotal → total ≡ Ok done
  unfolding each
  each_ends le so_far = sym so_far ∙ rw (drop_of_length-le values le) refl
