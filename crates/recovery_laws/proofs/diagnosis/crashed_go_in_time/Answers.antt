use Rattle.recovery_laws.proofs.Crashed.{next_silent, goes_in_time}
use Rattle.recovery_laws.proofs.diagnosis.crashed_go_in_time.Goals as goal

pub returns-clause-stays_silent : goal.returns-clause-stays_silent
returns-clause-stays_silent c = next_silent

pub returns-clause-goes : goal.returns-clause-goes
returns-clause-goes c = goes_in_time
