use Rattle.std.proofs.Common.{refl}
use Rattle.guards_runs.proofs.RunsOnLiterals.{run_on_literals}
use Rattle.guards_runs.specs.ActedReport.{whole_report}
use Rattle.model_rows.proofs.moved_outputs.loss_is_borne.Goals as goal

pub returns-clause-text : goal.returns-clause-text
unfolding run_on_literals whole_report
returns-clause-text c = refl

pub returns-clause-delivered : goal.returns-clause-delivered
unfolding run_on_literals
returns-clause-delivered c = refl
