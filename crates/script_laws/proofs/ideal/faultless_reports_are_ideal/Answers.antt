use Rattle.script_laws.proofs.IdealReports.{report_is}
use Rattle.script_laws.proofs.ideal.faultless_reports_are_ideal.Goals as goal

pub returns : goal.returns
returns c = report_is
