use Rattle.script_laws.proofs.WholeRuns.{runs_alike, whole_reports_alike}
use Rattle.script_laws.proofs.laws.scripted_runs_are_alike.Goals as goal

pub returns-clause-facts : goal.returns-clause-facts
returns-clause-facts c M L K n script_l script_k = runs_alike M L K script_l script_k n

pub returns-clause-reports : goal.returns-clause-reports
returns-clause-reports c = whole_reports_alike
