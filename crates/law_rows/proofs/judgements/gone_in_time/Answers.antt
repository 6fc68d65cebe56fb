use Rattle.std.proofs.Common.{refl}
use Rattle.guards_runs.proofs.RunsOnLiterals.{run_on_literals}
use Rattle.guards_runs.proofs.DueTest.{run_if}
use Rattle.law_rows.specs.GoneInTime as row
use Rattle.law_rows.proofs.judgements.gone_in_time.Goals as goal

pub returns-clause-run : goal.returns-clause-run
unfolding run_on_literals
returns-clause-run c = record {
  is_mission =
      record {
        rules = refl;
        cycles = refl;
        width = refl;
        return_after = refl;
        initial = refl;
        table = refl;
        outputs = refl;
        sensors = refl;
        script = refl;
        actuator = refl;
      };
  is_run = run_if row.mission row.log row.histories row.mission.cycles refl refl refl;
  reported = refl;
  sent = refl;
  delivered = refl;
  switches = refl;
}

pub returns-clause-crashed : goal.returns-clause-crashed
unfolding run_on_literals
returns-clause-crashed c = refl

pub returns-clause-voted : goal.returns-clause-voted
unfolding run_on_literals
returns-clause-voted c = refl

pub returns-clause-silent : goal.returns-clause-silent
unfolding run_on_literals
returns-clause-silent c = refl

pub returns-clause-enough : goal.returns-clause-enough
unfolding run_on_literals
returns-clause-enough c = refl

pub returns-clause-not_yet : goal.returns-clause-not_yet
unfolding run_on_literals
returns-clause-not_yet c = refl

pub returns-clause-removed : goal.returns-clause-removed
unfolding run_on_literals
returns-clause-removed c = refl
