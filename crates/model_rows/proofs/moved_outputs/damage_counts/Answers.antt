use Rattle.std.proofs.Common.{refl}
use Rattle.guards_runs.proofs.RunsOnLiterals.{run_on_literals}
use Rattle.model_rows.proofs.moved_outputs.damage_counts.Goals as goal

pub returns-clause-due : goal.returns-clause-due
unfolding run_on_literals
returns-clause-due c = (
  record { cycle = refl; slot = refl; from = refl; to = refl; sent = refl },
  (
    record { cycle = refl; slot = refl; from = refl; to = refl; sent = refl },
    (
      record { cycle = refl; slot = refl; from = refl; to = refl; sent = refl },
      (
        record { cycle = refl; slot = refl; from = refl; to = refl; sent = refl },
        (record { cycle = refl; slot = refl; from = refl; to = refl; sent = refl }, tt),
      ),
    ),
  ),
)

pub returns-clause-disturbed : goal.returns-clause-disturbed
unfolding run_on_literals
returns-clause-disturbed c = refl

pub returns-clause-goes_on : goal.returns-clause-goes_on
unfolding run_on_literals
returns-clause-goes_on c = refl

pub returns-clause-stops : goal.returns-clause-stops
unfolding run_on_literals
returns-clause-stops c = refl
