use Rattle.recovery_laws.proofs.Decided.{peak_or_reached}
use Rattle.recovery_laws.proofs.diagnosis.peaks_are_decided.Goals as goal

pub returns : goal.returns
returns c M period mission = peak_or_reached M period mission
