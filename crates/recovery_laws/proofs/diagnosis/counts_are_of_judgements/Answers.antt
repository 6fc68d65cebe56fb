use Rattle.recovery_laws.proofs.JudgedCounts.{run_counts}
use Rattle.recovery_laws.proofs.diagnosis.counts_are_of_judgements.Goals as goal

pub returns : goal.returns
returns c = run_counts
