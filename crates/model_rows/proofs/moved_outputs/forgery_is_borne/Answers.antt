use Rattle.std.proofs.Common.{refl}
use Rattle.guards_runs.proofs.RunsOnLiterals.{run_on_literals}
use Rattle.guards_runs.specs.ActedReport.{whole_report}
use Rattle.model_rows.proofs.moved_outputs.forgery_is_borne.Goals as goal

pub returns-clause-word : goal.returns-clause-word
unfolding run_on_literals
returns-clause-word c = refl

pub returns-clause-cycle : goal.returns-clause-cycle
unfolding run_on_literals
returns-clause-cycle c = refl

pub returns-clause-sender : goal.returns-clause-sender
unfolding run_on_literals
returns-clause-sender c = refl

pub returns-clause-number : goal.returns-clause-number
unfolding run_on_literals
returns-clause-number c = refl

pub returns-clause-kind : goal.returns-clause-kind
unfolding run_on_literals
returns-clause-kind c = refl

pub returns-clause-text : goal.returns-clause-text
unfolding run_on_literals whole_report
returns-clause-text c = refl

pub returns-clause-text_without : goal.returns-clause-text_without
unfolding run_on_literals whole_report
returns-clause-text_without c = refl
