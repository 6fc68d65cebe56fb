use Rattle.std.proofs.Common.{refl}
use Rattle.guards_runs.proofs.RunsOnLiterals.{run_on_literals}
use Rattle.guards_runs.proofs.DueTest.{run_if}
use Rattle.law_rows.specs.JudgedTwice as row
use Rattle.law_rows.proofs.judgements.judged_twice.Goals as goal

pub returns-clause-run : goal.returns-clause-run
unfolding run_on_literals
returns-clause-run c = record {
  is_mission =
      record {
        rules = refl;
        cycles = refl;
        width = refl;
        return_after = refl;
        initial = refl;
        table = refl;
        outputs = refl;
        sensors = refl;
        script = refl;
        actuator = refl;
      };
  is_run = run_if row.mission row.log row.histories row.mission.cycles refl refl refl;
  reported = refl;
  sent = refl;
  delivered = refl;
  switches = refl;
}

pub returns-clause-undisturbed : goal.returns-clause-undisturbed
unfolding run_on_literals
returns-clause-undisturbed c = refl

pub returns-clause-one_cycle : goal.returns-clause-one_cycle
unfolding run_on_literals
returns-clause-one_cycle c = refl

pub returns-clause-count : goal.returns-clause-count
unfolding run_on_literals
returns-clause-count c = refl

pub returns-clause-unasked : goal.returns-clause-unasked
unfolding run_on_literals
returns-clause-unasked c = refl

pub returns-clause-removed : goal.returns-clause-removed
unfolding run_on_literals
returns-clause-removed c = refl
