-- A content that is taken is one of the frames.
use Rattle.std.proofs.Common.{◌≡◌, ℕ, ◌≤◌, ◌==◌, Bool, true, false, cond, List, [], ◌∷◌, Option, Some, None, refl, sym, ap, ◌∙◌}
use Rattle.std.specs.Prelude.{find, All, nat_le, option_and_then}
use Rattle.std.specs.List.{list_all}
use Rattle.std.specs.Option.{option_eq}
use Rattle.std.proofs.lemmas.Bool.{leb-true}
use Rattle.std.proofs.lemmas.List.Sums.{AllPass-from_list_all}
use Rattle.guards_model.specs.Majority.{majority}
use Rattle.guards_model.specs.Frames.{FinalValue, counts_in_range}
use Rattle.guards_model.specs.Replicas.{ReplicaValue, if_own, same_final, final_taken}
use Rattle.guards_model.proofs.BoolTests.{both}

same_some : {A : Type 0} (x y : A) → Some x ≡ Some y → x ≡ y
same_some x y e = cc

not_some : {A : Type 0} (y : A) → None ≡ Some y → ⊥
not_some y e = cc

found_by : {A : Type 0} (good : A → Bool) (x y : A) (rest : Option A) (b : Bool) → cond b (Some x) rest ≡ Some y →
    good x ≡ true → (rest ≡ Some y → good y ≡ true) → good y ≡ true
found_by good x y rest true e here later = ap good (sym (same_some x y e)) ∙ here
found_by good x y rest false e here later = later e

pub found_is_good : {A : Type 0} (p good : A → Bool) (xs : List A) (y : A) → find p xs ≡ Some y →
    list_all good xs ≡ true → good y ≡ true
found_is_good p good [] y e h = absurd (not_some y e)
found_is_good p good (x ∷ xs) y e h =
    let parts = both (good x) (list_all good xs) h in
    found_by good x y (find p xs) (p x) e parts.0 (λ f. found_is_good p good xs y f parts.1)

own_by : (x content : FinalValue) (b : Bool) → cond b (Some x) None ≡ Some content → x ≡ content
own_by x content true e = same_some x content e
own_by x content false e = absurd (not_some content e)

own_good : (r : ReplicaValue) (good : FinalValue → Bool) (o : Option FinalValue) (content : FinalValue) →
    option_and_then (if_own r) o ≡ Some content → ((x : FinalValue) → o ≡ Some x → good x ≡ true) → good content ≡ true
own_good r good None content e h = absurd (not_some content e)
own_good r good (Some x) content e h =
    ap good (sym (own_by x content (option_eq (λ a b. a == b) r.have (Some x.start)) e)) ∙ h x refl

pub taken_is_good : (good : FinalValue → Bool) (frames : List FinalValue) (r : ReplicaValue) (content : FinalValue) →
    final_taken frames r ≡ Some content → list_all good frames ≡ true → good content ≡ true
taken_is_good good frames r content e h =
    own_good r good (majority same_final frames) content e (λ x f. found_is_good _ good frames x f h)

pub capped_counts : (counts : List ℕ) → counts_in_range counts ≡ true → All (λ n. n ≤ 16777216) counts
capped_counts counts h k d lt =
    leb-true _ _ (AllPass-from_list_all (λ n. nat_le n 16777216) counts (both _ _ h).1 k d lt)
