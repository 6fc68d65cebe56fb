use Rattle.recovery_laws.proofs.HighestCounts.{peak_found}
use Rattle.recovery_laws.proofs.diagnosis.peaks_are_highest.Goals as goal

pub returns : goal.returns
returns c = peak_found
