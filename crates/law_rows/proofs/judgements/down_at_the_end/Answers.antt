use Rattle.std.proofs.Common.{refl}
use Rattle.guards_runs.proofs.RunsOnLiterals.{run_on_literals}
use Rattle.law_rows.proofs.judgements.down_at_the_end.Goals as goal

pub returns-clause-silent : goal.returns-clause-silent
unfolding run_on_literals
returns-clause-silent c = refl

pub returns-clause-judged : goal.returns-clause-judged
unfolding run_on_literals
returns-clause-judged c = refl

pub returns-clause-from_none : goal.returns-clause-from_none
unfolding run_on_literals
returns-clause-from_none c = refl
