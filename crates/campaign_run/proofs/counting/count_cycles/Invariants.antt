use Rattle.std.proofs.Common.{◌≡◌}
use Rattle.campaign_run.specs.Counting.{IsCounted}
use Rattle.campaign_run.proofs.counting.count_cycles.Given as goal

-- so many cycles ran as were passed, and each was counted
abbrev pub invariant-loop-cycle : goal.invariant-loop-cycle
invariant-loop-cycle g l = record {
  done : l.world.done ≡ l.cycle;
  kept : l.world.mission ≡ l.fn.world.mission;
  count : l.tally.cycles ≡ l.cycle;
  at : IsCounted g.B.Bus.may l.fn.world.mission (g.B.Bus.seen l.fn.bus) l.world (g.B.Bus.seen l.bus) l.tally;
}
