use Rattle.std.proofs.Common.{refl}
use Rattle.guards_runs.proofs.RunsOnLiterals.{run_on_literals}
use Rattle.guards_runs.proofs.DueTest.{run_if}
use Rattle.model_rows.specs.OneByOne as row
use Rattle.model_rows.proofs.one_by_one.Goals as goal

pub returns-clause-run : goal.returns-clause-run
unfolding run_on_literals
returns-clause-run c = record {
  is_mission =
      record {
        rules = refl;
        cycles = refl;
        width = refl;
        return_after = refl;
        initial = refl;
        table = refl;
        outputs = refl;
        sensors = refl;
        script = refl;
        actuator = refl;
      };
  is_run = run_if row.mission row.log row.histories row.mission.cycles refl refl refl;
  reported = refl;
  sent = refl;
  delivered = refl;
  switches = refl;
}

pub returns-clause-joined_5 : goal.returns-clause-joined_5
unfolding run_on_literals
returns-clause-joined_5 c =
    record { whole = refl; filled = refl; taken = refl; joined = refl; ideal = refl; control = refl }

pub returns-clause-joined_6 : goal.returns-clause-joined_6
unfolding run_on_literals
returns-clause-joined_6 c =
    record { whole = refl; filled = refl; taken = refl; joined = refl; ideal = refl; control = refl }
