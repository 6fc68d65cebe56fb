use Rattle.recovery_laws.proofs.Seldom.{run_keeps_seldom}
use Rattle.recovery_laws.proofs.diagnosis.seldom_judged_stay.Goals as goal

pub returns : goal.returns
returns c = run_keeps_seldom
