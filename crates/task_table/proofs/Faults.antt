-- The first fault of a list, from a place on.
use Rattle.std.proofs.Common.{◌≡◌, ℕ, zero, suc, ◌+◌, ◌<◌, ◌≤◌, List, [], ◌∷◌, length, drop, Option, Some, refl, ap, ◌∙◌, arith}
use Rattle.std.specs.Prelude.{slice_get}
use Rattle.std.proofs.lemmas.Option.{slice_get_within, get_or_from_slice_get}
use Rattle.std.proofs.Math.Seq.{drop-cons}
use Rattle.task_table.specs.declared.fault.TableFault.{TableFault}
use Rattle.task_table.specs.TableFaults.{fault_or, first_fault}

-- from a place on, a list begins with the element there
pub at_place : {A : Type 0} (xs : List A) (at : ℕ) (x : A) → slice_get xs at ≡ Some x →
    drop at xs ≡ x ∷ drop (at + 1) xs
at_place xs at x h = drop-cons xs at x (slice_get_within xs at x h)
    ∙ ap (λ y. y ∷ drop (suc at) xs) (get_or_from_slice_get xs at x x h) ∙ ap (λ n. x ∷ drop n xs) next
  where
    next : suc at ≡ at + 1
    next = omega arith

pub fault_at : {A : Type 0} (check : ℕ → A → Option TableFault) (xs : List A) (at : ℕ) (x : A) →
    slice_get xs at ≡ Some x →
    first_fault check at (drop at xs) ≡ fault_or (check at x) (first_fault check (at + 1) (drop (at + 1) xs))
fault_at check xs at x h = ap (first_fault check at) (at_place xs at x h)

pub dropped : {A : Type 0} (xs : List A) (n : ℕ) → length xs ≤ n → drop n xs ≡ []
dropped [] zero h = refl
dropped [] (suc n) h = refl
dropped (x ∷ xs) zero h = absurd (omega arith)
dropped (x ∷ xs) (suc n) h = dropped xs n (omega (arith, h))
