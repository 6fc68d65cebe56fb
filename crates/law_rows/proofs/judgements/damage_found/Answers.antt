use Rattle.std.proofs.Common.{refl}
use Rattle.guards_runs.proofs.RunsOnLiterals.{run_on_literals}
use Rattle.law_rows.proofs.judgements.damage_found.Goals as goal

pub returns-clause-damaged : goal.returns-clause-damaged
unfolding run_on_literals
returns-clause-damaged c = refl

pub returns-clause-none_joined : goal.returns-clause-none_joined
unfolding run_on_literals
returns-clause-none_joined c = refl

pub returns-clause-disturbed : goal.returns-clause-disturbed
unfolding run_on_literals
returns-clause-disturbed c = refl

pub returns-clause-not_before : goal.returns-clause-not_before
unfolding run_on_literals
returns-clause-not_before c = refl

pub returns-clause-judged : goal.returns-clause-judged
unfolding run_on_literals
returns-clause-judged c = refl

pub returns-clause-found : goal.returns-clause-found
unfolding run_on_literals
returns-clause-found c = refl
