use Rattle.std.proofs.Common.{◌≡◌, ◌≤◌, ◌*◌}
use Rattle.world_run.specs.Tallying.{IsTallied}
use Rattle.world_run.proofs.summary.tally_cycles.Given as goal

-- so many cycles ran as were passed, what they tell was kept, and nothing was written
abbrev pub invariant-loop-cycle : goal.invariant-loop-cycle
invariant-loop-cycle g l = record {
  done : l.world.done ≡ l.cycle;
  kept : l.world.mission ≡ l.fn.world.mission;
  joins : l.tally.joins ≤ 255 * l.cycle;
  removals : l.tally.removals ≤ 255 * l.cycle;
  at : IsTallied g.B.Bus.may l.fn.world.mission (g.B.Bus.seen l.fn.bus) l.world (g.B.Bus.seen l.bus) l.tally;
  unwritten : g.K.Sink.seen l.out ≡ g.K.Sink.seen l.fn.out;
}
