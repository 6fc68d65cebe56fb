use Rattle.std.proofs.Common.{refl}
use Rattle.guards_runs.proofs.RunsOnLiterals.{run_on_literals}
use Rattle.guards_runs.proofs.DueTest.{run_if}
use Rattle.model_rows.specs.MissingWord as row
use Rattle.model_rows.proofs.missing_word.Goals as goal

pub returns : goal.returns
unfolding run_on_literals
returns c = record {
  is_mission =
      record {
        rules = refl;
        cycles = refl;
        width = refl;
        return_after = refl;
        initial = refl;
        table = refl;
        outputs = refl;
        sensors = refl;
        script = refl;
        actuator = refl;
      };
  is_run = run_if row.mission row.log row.histories row.mission.cycles refl refl refl;
  reported = refl;
  sent = refl;
  delivered = refl;
  switches = refl;
}
