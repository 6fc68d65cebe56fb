-- In an exchange the word of a source that no other member holds is missing for every member.
use Rattle.std.proofs.Common.{◌≡◌, ℕ, zero, suc, ◌≤◌, ◌==◌, Bool, true, false, not, ◌||◌, List, [], ◌∷◌, None, refl, sym, ap, ◌∙◌, arith}
use Rattle.std.specs.Prelude.{count_by}
use Rattle.std.proofs.lemmas.Bool.{eqb-true}
use Rattle.guards_model.specs.Channels.{Channel, has, without, tolerated_faults}
use Rattle.guards_model.specs.Exchanges.{ExchangeMembers, holds, resolved, IsTold}
use Rattle.guards_model.proofs.Tables.{has-filter}
use Rattle.guards_model.proofs.Counting.{count-cons, one_if_true}
use Rattle.guards_model.proofs.BoolTests.{both, no_first, not_true}
use Rattle.guards_model.proofs.OralAgreement.{settled_by, longer, member, few_left, alone, value, value_told}

counted_by : (P : ℕ → Bool) (x q : ℕ) (xs : List ℕ) (b : Bool) → (x == q) ≡ b → (b || has xs q) ≡ true → P q ≡ true →
    (has xs q ≡ true → 1 ≤ count_by P xs) → 1 ≤ count_by P (x ∷ xs)
counted_by P x q xs true e h passes more =
    omega (arith, count-cons P x xs, one_if_true (P x) (ap P (eqb-true x q e) ∙ passes))
counted_by P x q xs false e h passes more = omega (arith, count-cons P x xs, more h)

-- a member that passes is counted
counted : (P : ℕ → Bool) (xs : List ℕ) (q : ℕ) → has xs q ≡ true → P q ≡ true → 1 ≤ count_by P xs
counted P [] q there passes = absurd cc
counted P (x ∷ xs) q there passes = counted_by P x q xs (x == q) refl there passes (λ h. counted P xs q h passes)

module _ (x : ExchangeMembers) (told : IsTold x) where
  module _ (s : Channel) (hs : has x.active s ≡ true) (bad : has x.disturbed s ≡ true)
      (none : (j : Channel) → has x.active j ≡ true → (s == j) ≡ false → holds x j (s ∷ []) ≡ None) where
    other : (j : Channel) → has (without x.active (s ∷ [])) j ≡ true → (s == j) ≡ false
    other j within =
        (no_first (s == j) false (not_true (has (s ∷ []) j)
        (both (not (has (s ∷ []) j)) (has x.active j)
        (sym (has-filter (λ q. not (has (s ∷ []) q)) x.active j) ∙ within)).0)).0

    by_size : (m : ℕ) (p : Channel) → m ≡ tolerated_faults x.active → has x.active p ≡ true →
        value x told p m (s ∷ []) ≡ None
    unfolding value
    by_size zero p size there = absurd (omega (arith, size, told.few, counted (has x.disturbed) x.active s hs bad))
    by_size (suc k) p size there =
        settled_by x.disturbed (λ i. value x told p k (i ∷ s ∷ [])) None (without x.active (s ∷ []))
        (few_left x.disturbed x.active (s ∷ []) told.distinct told.few (alone x.active s hs) (omega arith))
        (λ i within fine. value_told x told k i p (s ∷ []) (longer x.active i (s ∷ []) (alone x.active s hs) within)
        (omega arith) fine there
        ∙ none i (member x.active i (s ∷ []) within) (other i within))

    pub missing_resolved : (p : Channel) → has x.active p ≡ true → resolved x p s ≡ None
    unfolding value
    missing_resolved p there = by_size (tolerated_faults x.active) p refl there
