use Rattle.std.proofs.Common.{refl}
use Rattle.guards_runs.proofs.RunsOnLiterals.{run_on_literals}
use Rattle.law_rows.proofs.lengths.restart_to_join.Goals as goal

pub returns-clause-still_active : goal.returns-clause-still_active
unfolding run_on_literals
returns-clause-still_active c = refl

pub returns-clause-restarted : goal.returns-clause-restarted
unfolding run_on_literals
returns-clause-restarted c = refl

pub returns-clause-removed : goal.returns-clause-removed
unfolding run_on_literals
returns-clause-removed c = refl

pub returns-clause-not_yet : goal.returns-clause-not_yet
unfolding run_on_literals
returns-clause-not_yet c = refl

pub returns-clause-whole : goal.returns-clause-whole
unfolding run_on_literals
returns-clause-whole c = refl
