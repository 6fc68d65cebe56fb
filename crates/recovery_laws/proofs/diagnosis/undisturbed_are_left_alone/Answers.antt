use Rattle.recovery_laws.proofs.LeftAlone.{run_leaves_alone, run_spares}
use Rattle.recovery_laws.proofs.diagnosis.undisturbed_are_left_alone.Goals as goal

pub returns-clause-alone : goal.returns-clause-alone
returns-clause-alone c = run_leaves_alone

pub returns-clause-spotless : goal.returns-clause-spotless
returns-clause-spotless c = run_spares
