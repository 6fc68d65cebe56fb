-- The first number that passes, as a loop finds it.
use Rattle.std.proofs.Common.{◌≡◌, ◌<◌, ◌≤◌, ◌+◌, ℕ, Bool, true, false, Some, None, sym, arith}
use Rattle.std.specs.Prelude.{nat_le}
use Rattle.std.proofs.lemmas.Bool.{leb-true}
use Rattle.guards_model.proofs.BoolTests.{clear}
use Rattle.recovery_laws.specs.Lengths.{first_from}
use Rattle.recovery_laws.proofs.FirstFrom.{least, none_first}

module _ (f : ℕ → Bool) (n : ℕ) (before : (j : ℕ) → 1 ≤ j → j ≤ n → f j ≡ false) where
  -- the next one passes
  pub found_next : n < 2000 → f (n + 1) ≡ true → Some (n + 1) ≡ first_from f 1 2000
  found_next low passes =
      sym (least f 1 2000 (n + 1) (omega (arith, low))
      (record { from = omega arith; passes = passes; none = λ j from under. before j from (omega (arith, under)) }))

  -- none passes
  pub found_none : n ≡ 2000 → None ≡ first_from f 1 2000
  found_none all = sym (none_first f 1 2000 (λ j from under. before j from (omega (arith, under, all))))

pub le_false : (a b : ℕ) → b < a → nat_le a b ≡ false
le_false a b h = clear (nat_le a b) (λ e. let low : a ≤ b = leb-true a b e in absurd (omega (arith, h, low)))
