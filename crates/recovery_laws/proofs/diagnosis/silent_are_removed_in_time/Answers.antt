use Rattle.recovery_laws.proofs.Silent.{run_finds, run_removes}
use Rattle.recovery_laws.proofs.diagnosis.silent_are_removed_in_time.Goals as goal

pub returns-clause-found : goal.returns-clause-found
returns-clause-found c = run_finds

pub returns-clause-removed : goal.returns-clause-removed
returns-clause-removed c = run_removes
