use Rattle.std.proofs.Common.{◌≡◌, ℕ, ◌/◌, ◌<◌, ◌≤◌, Bool, true, false, ◌&&◌, refl, sym, ap, ◌∙◌, arith}
use Rattle.std.specs.Prelude.{nat_lt, nat_le}
use Rattle.std.proofs.lemmas.Bool.{le-leb, leb-true}
use Rattle.voter.specs.Middle.{stands_in_middle}
use Rattle.voter.proofs.counting.is_middle.Goals as goal

not_at_most : (a b : ℕ) (t : Bool) → nat_le a b ≡ t → b < a → nat_le a b ≡ false
not_at_most a b true e h = absurd (omega (arith, leb-true a b e))
not_at_most a b false e h = e

few_then : (less at few many : ℕ) (s m : ℕ) → s / 2 ≡ m → less ≡ few → at ≡ many → less ≤ s / 2 →
    nat_lt (s / 2) at ≡ (nat_le few m && nat_lt m many)
few_then less at few many s m e f g h =
    let low : few ≤ m = omega (arith, e, f, h) in
    ap (λ k. nat_lt k at) e ∙ ap (nat_lt m) g ∙ sym (ap (λ b. b && nat_lt m many) (le-leb few m low))

few_else : (less few many : ℕ) (s m : ℕ) → s / 2 ≡ m → less ≡ few → s / 2 < less →
    nat_le less (s / 2) ≡ (nat_le few m && nat_lt m many)
few_else less few many s m e f h =
    let high : m < few = omega (arith, e, f, h) in
    not_at_most less (s / 2) (nat_le less (s / 2)) refl h
    ∙ sym (ap (λ b. b && nat_lt m many) (not_at_most few m (nat_le few m) refl high))

pub returns-then-count_less-middle : goal.returns-then-count_less-middle
unfolding stands_in_middle
returns-then-count_less-middle c =
    few_then c.count_less.result c.count_at_most.result _ _ c.saturating_sub-middle.result _
    (ap (λ s. s / 2) c.saturating_sub-middle.ensures) c.count_less.ensures c.count_at_most.ensures
    c.if-count_less-middle.true

pub returns-else-count_less-middle : goal.returns-else-count_less-middle
unfolding stands_in_middle
returns-else-count_less-middle c =
    few_else c.count_less.result _ _ c.saturating_sub-middle.result _ (ap (λ s. s / 2) c.saturating_sub-middle.ensures)
    c.count_less.ensures c.if-count_less-middle.false
