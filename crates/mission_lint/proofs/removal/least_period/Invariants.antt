use Rattle.std.proofs.Common.{◌≡◌, ◌≤◌, ℕ, false}
use Rattle.mission_lint.proofs.LeastPeriod.{stays}
use Rattle.mission_lint.proofs.removal.least_period.Given as goal

abbrev pub invariant-loop-before : goal.invariant-loop-before
invariant-loop-before l = record {
  within : l.before ≤ 2000;
  none : (j : ℕ) → 1 ≤ j → j ≤ l.before → stays l.rules j ≡ false;
}
