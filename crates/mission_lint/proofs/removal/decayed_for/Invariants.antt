use Rattle.std.proofs.Common.{◌≡◌, ◌≤◌}
use Rattle.recovery_laws.specs.CountHistories.{decayed_for}
use Rattle.mission_lint.proofs.removal.decayed_for.Given as goal

abbrev pub invariant-loop-cycle : goal.invariant-loop-cycle
invariant-loop-cycle l = record {
  within : l.cycle ≤ l.cycles;
  left : l.left ≡ decayed_for l.rules.law l.rules.keep l.rules.decrement l.cycle l.count;
  lower : l.left ≤ l.count;
}
