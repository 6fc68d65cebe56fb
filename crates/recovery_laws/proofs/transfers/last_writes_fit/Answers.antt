use Rattle.std.proofs.Common.{◌+◌}
use Rattle.recovery_laws.proofs.LastCycle.{writes_fit, writes_too_much}
use Rattle.recovery_laws.proofs.transfers.last_writes_fit.Goals as goal

pub returns-clause-last : goal.returns-clause-last
returns-clause-last c M row n mission fits = writes_fit M mission row n fits

pub returns-clause-never : goal.returns-clause-never
returns-clause-never c M row n mission more = writes_too_much M mission row n (more (row + n))
