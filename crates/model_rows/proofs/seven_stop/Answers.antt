use Rattle.std.proofs.Common.{refl}
use Rattle.guards_runs.proofs.RunsOnLiterals.{run_on_literals}
use Rattle.guards_runs.proofs.DueTest.{stopped_if}
use Rattle.guards_model.specs.declared.Slot.TheVariants.{Vote}
use Rattle.model_rows.specs.SevenStop as row
use Rattle.model_rows.proofs.seven_stop.Goals as goal

pub returns : goal.returns
unfolding run_on_literals
returns c = record {
  is_mission =
      record {
        rules = refl;
        cycles = refl;
        width = refl;
        return_after = refl;
        initial = refl;
        table = refl;
        outputs = refl;
        sensors = refl;
        script = refl;
        actuator = refl;
      };
  due = stopped_if row.mission row.log row.histories 0 Vote refl refl refl;
  reported = refl;
  delivered = refl;
}
