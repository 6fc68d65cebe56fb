use Rattle.std.proofs.Common.{refl}
use Rattle.guards_runs.proofs.RunsOnLiterals.{run_on_literals}
use Rattle.guards_runs.proofs.DueTest.{run_if}
use Rattle.model_rows.specs.TwoCycles as two_cycles
use Rattle.guards_runs.specs.ActedReport.{whole_report}
use Rattle.model_rows.specs.Outputs as row
use Rattle.model_rows.proofs.moved_outputs.moves_by_steps.Goals as goal

pub returns-clause-is_mission : goal.returns-clause-is_mission
unfolding run_on_literals
returns-clause-is_mission c =
    record {
      rules = refl;
      cycles = refl;
      width = refl;
      return_after = refl;
      initial = refl;
      table = refl;
      outputs = refl;
      sensors = refl;
      script = refl;
      actuator = refl;
    }

pub returns-clause-words : goal.returns-clause-words
unfolding run_on_literals
returns-clause-words c = refl

pub returns-clause-last : goal.returns-clause-last
unfolding run_on_literals
returns-clause-last c = refl

pub returns-clause-is_run : goal.returns-clause-is_run
unfolding run_on_literals
returns-clause-is_run c = run_if row.acting two_cycles.log two_cycles.histories 2 refl refl refl

pub returns-clause-due : goal.returns-clause-due
unfolding run_on_literals
returns-clause-due c = (
  record { cycle = refl; slot = refl; from = refl; to = refl; sent = refl },
  (
    record { cycle = refl; slot = refl; from = refl; to = refl; sent = refl },
    (
      record { cycle = refl; slot = refl; from = refl; to = refl; sent = refl },
      (record { cycle = refl; slot = refl; from = refl; to = refl; sent = refl }, tt),
    ),
  ),
)

pub returns-clause-due_last : goal.returns-clause-due_last
unfolding run_on_literals
returns-clause-due_last c = (
  record { cycle = refl; slot = refl; from = refl; to = refl; sent = refl },
  (
    record { cycle = refl; slot = refl; from = refl; to = refl; sent = refl },
    (
      record { cycle = refl; slot = refl; from = refl; to = refl; sent = refl },
      (record { cycle = refl; slot = refl; from = refl; to = refl; sent = refl }, tt),
    ),
  ),
)

pub returns-clause-text : goal.returns-clause-text
unfolding run_on_literals whole_report
returns-clause-text c = refl
