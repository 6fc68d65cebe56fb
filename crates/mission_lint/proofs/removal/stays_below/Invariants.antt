use Rattle.std.proofs.Common.{◌≡◌, ◌≤◌, ◌-◌}
use Rattle.recovery_laws.specs.CountHistories.{peak_from}
use Rattle.mission_lint.proofs.removal.stays_below.Given as goal

abbrev pub invariant-loop-step : goal.invariant-loop-step
invariant-loop-step l = record {
  within : l.step ≤ l.threshold;
  small : l.count ≤ 7000000;
  peak : peak_from l.rules.law l.rules.keep l.rules.decrement l.rules.threshold l.period 65536
      ≡ peak_from l.rules.law l.rules.keep l.rules.decrement (l.threshold - l.step) l.period l.count;
}
