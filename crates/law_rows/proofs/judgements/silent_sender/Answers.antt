use Rattle.std.proofs.Common.{refl}
use Rattle.guards_runs.proofs.RunsOnLiterals.{run_on_literals}
use Rattle.law_rows.proofs.judgements.silent_sender.Goals as goal

pub returns-clause-silent : goal.returns-clause-silent
unfolding run_on_literals
returns-clause-silent c = refl

pub returns-clause-from_none : goal.returns-clause-from_none
unfolding run_on_literals
returns-clause-from_none c = refl

pub returns-clause-count : goal.returns-clause-count
unfolding run_on_literals
returns-clause-count c = refl

pub returns-clause-disturbed : goal.returns-clause-disturbed
unfolding run_on_literals
returns-clause-disturbed c = refl

pub returns-clause-removed : goal.returns-clause-removed
unfolding run_on_literals
returns-clause-removed c = refl
