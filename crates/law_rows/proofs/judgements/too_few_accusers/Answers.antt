use Rattle.std.proofs.Common.{refl}
use Rattle.guards_runs.proofs.RunsOnLiterals.{run_on_literals}
use Rattle.guards_runs.proofs.DueTest.{run_if}
use Rattle.law_rows.specs.TooFewAccusers as row
use Rattle.law_rows.proofs.judgements.too_few_accusers.Goals as goal

pub returns-clause-run : goal.returns-clause-run
unfolding run_on_literals
returns-clause-run c = record {
  is_mission =
      record {
        rules = refl;
        cycles = refl;
        width = refl;
        return_after = refl;
        initial = refl;
        table = refl;
        outputs = refl;
        sensors = refl;
        script = refl;
        actuator = refl;
      };
  is_run = run_if row.mission row.log row.histories row.mission.cycles refl refl refl;
  reported = refl;
  sent = refl;
  delivered = refl;
  switches = refl;
}

pub returns-clause-found : goal.returns-clause-found
unfolding run_on_literals
returns-clause-found c = refl

pub returns-clause-removed : goal.returns-clause-removed
unfolding run_on_literals
returns-clause-removed c = refl

pub returns-clause-joined : goal.returns-clause-joined
unfolding run_on_literals
returns-clause-joined c = refl

pub returns-clause-undisturbed : goal.returns-clause-undisturbed
unfolding run_on_literals
returns-clause-undisturbed c = refl

pub returns-clause-one : goal.returns-clause-one
unfolding run_on_literals
returns-clause-one c = refl

pub returns-clause-tolerated : goal.returns-clause-tolerated
unfolding run_on_literals
returns-clause-tolerated c = refl

pub returns-clause-unjudged : goal.returns-clause-unjudged
unfolding run_on_literals
returns-clause-unjudged c = refl
