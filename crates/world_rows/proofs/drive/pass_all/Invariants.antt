use Rattle.std.proofs.Common.{◌≡◌}
use Rattle.world_rows.specs.Driving.{IsRunning}
use Rattle.world_rows.proofs.drive.pass_all.Given as goal

abbrev pub invariant-loop-cycle : goal.invariant-loop-cycle
invariant-loop-cycle g l =
    record {
      running : IsRunning g.B.Bus.may l.world (g.B.Bus.seen l.bus);
      done : l.world.done ≡ l.cycle;
      same : l.world.mission ≡ l.fn.world.mission;
    }
