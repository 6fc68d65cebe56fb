use Rattle.guards_audit.proofs.ReportsBack.{report_back, report_is}
use Rattle.guards_audit.proofs.lines.reports_are_read.Goals as goal

pub returns-clause-back : goal.returns-clause-back
returns-clause-back c = report_back

pub returns-clause-spelled : goal.returns-clause-spelled
returns-clause-spelled c = report_is
