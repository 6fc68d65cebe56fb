-- The peaks of a count, one after the other.
use Rattle.std.proofs.Common.{◌≡◌, ◌<◌, ◌≤◌, ◌∙◌, ℕ, zero, suc, Bool, true, false, cond, Option, Some, refl, ap, arith}
use Rattle.std.specs.Prelude.{nat_lt}
use Rattle.std.proofs.lemmas.Bool.{leb-false, le-leb}
use Rattle.guards_model.specs.declared.Law.{Law}
use Rattle.guards_model.proofs.BoolTests.{clear}
use Rattle.std.proofs.lemmas.Bool.{ltb-true}
use Rattle.recovery_laws.specs.CountHistories.{next_peak, is_steady, peak_from}
use Rattle.recovery_laws.specs.LeastPeriods.{is_below}
use Rattle.mission_lint.proofs.FirstNumber.{le_false}

module _ (law : Law) (keep decrement period threshold : ℕ) where
  abbrev P : ℕ → ℕ → Option ℕ
  P few count = peak_from law keep decrement few period count

  abbrev next : ℕ → ℕ
  next count = next_peak law keep decrement period count

  -- none of the later peaks is below a count
  pub never_below : (few count : ℕ) → threshold ≤ count → is_below threshold (P few count) ≡ false
  never_below zero count high = refl
  never_below (suc few) count high = by (is_steady law keep decrement period count) refl (never_below few (next count))
    where
      by : (b : Bool) → is_steady law keep decrement period count ≡ b →
          (threshold ≤ next count → is_below threshold (P few (next count)) ≡ false) →
          is_below threshold (cond (is_steady law keep decrement period count) (Some count) (P few (next count)))
          ≡ false
      by true e rest =
          ap (λ b. is_below threshold (cond b (Some count) (P few (next count)))) e
          ∙ clear (nat_lt count threshold)
          (λ h. let low : count < threshold = ltb-true count threshold h in absurd (omega (arith, low, high)))
      by false e rest =
          let up : count < next count = leb-false (next count) count e in
          ap (λ b. is_below threshold (cond b (Some count) (P few (next count)))) e ∙ rest (omega (arith, high, up))

  -- a steady count is the peak
  pub steady_here : (few count : ℕ) → 0 < few → next count ≤ count → P few count ≡ Some count
  steady_here zero count some low = absurd (omega (arith, some))
  steady_here (suc few) count some low =
      ap (λ b. cond b (Some count) (P few (next count))) (le-leb (next count) count low)

  -- and any other is followed by the next one
  pub step_on : (few count : ℕ) → count < next count → P (suc few) count ≡ P few (next count)
  step_on few count up = ap (λ b. cond b (Some count) (P few (next count))) (le_false (next count) count up)
