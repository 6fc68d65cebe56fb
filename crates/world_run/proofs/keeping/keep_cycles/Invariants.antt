use Rattle.std.proofs.Common.{◌≡◌}
use Rattle.world_run.specs.Keeping.{IsKept}
use Rattle.world_run.proofs.keeping.keep_cycles.Given as goal

-- so many cycles ran as were passed, and the last parts of them were kept
abbrev pub invariant-loop-cycle : goal.invariant-loop-cycle
invariant-loop-cycle g l = record {
  done : l.world.done ≡ l.cycle;
  kept : l.world.mission ≡ l.fn.world.mission;
  at : IsKept g.B.Bus.may l.fn.log.room l.trace l.fn.world.mission l.fn.world.mission.actuator (g.B.Bus.seen l.fn.bus)
      l.world (g.B.Bus.seen l.bus) l.actuator l.log;
}
