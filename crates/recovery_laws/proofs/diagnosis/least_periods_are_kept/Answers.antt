use Rattle.recovery_laws.proofs.LeastPeriods.{run_keeps_from_least}
use Rattle.recovery_laws.proofs.diagnosis.least_periods_are_kept.Goals as goal

pub returns : goal.returns
returns c = run_keeps_from_least
