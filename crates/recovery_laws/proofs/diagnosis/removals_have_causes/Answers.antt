use Rattle.recovery_laws.proofs.Disturbance.{run_costs, run_causes}
use Rattle.recovery_laws.proofs.diagnosis.removals_have_causes.Goals as goal

pub returns-clause-costs : goal.returns-clause-costs
returns-clause-costs c = run_costs

pub returns-clause-causes : goal.returns-clause-causes
returns-clause-causes c = run_causes
