use Rattle.recovery_laws.proofs.Rows.{raises_judged, removes_judged}
use Rattle.recovery_laws.proofs.diagnosis.judged_are_removed_in_time.Goals as goal

pub returns-clause-raised : goal.returns-clause-raised
returns-clause-raised c = raises_judged

pub returns-clause-removed : goal.returns-clause-removed
returns-clause-removed c = removes_judged
