use Rattle.std.proofs.Common.{refl}
use Rattle.guards_runs.proofs.RunsOnLiterals.{run_on_literals}
use Rattle.law_rows.proofs.judgements.three_remain.Goals as goal

pub returns-clause-undisturbed : goal.returns-clause-undisturbed
unfolding run_on_literals
returns-clause-undisturbed c = refl

pub returns-clause-not_before : goal.returns-clause-not_before
unfolding run_on_literals
returns-clause-not_before c = refl

pub returns-clause-judged : goal.returns-clause-judged
unfolding run_on_literals
returns-clause-judged c = refl

pub returns-clause-one_cycle : goal.returns-clause-one_cycle
unfolding run_on_literals
returns-clause-one_cycle c = refl

pub returns-clause-candidate : goal.returns-clause-candidate
unfolding run_on_literals
returns-clause-candidate c = refl

pub returns-clause-stays : goal.returns-clause-stays
unfolding run_on_literals
returns-clause-stays c = refl

pub returns-clause-spotless : goal.returns-clause-spotless
unfolding run_on_literals
returns-clause-spotless c = refl
