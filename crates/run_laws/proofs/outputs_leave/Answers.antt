use Rattle.run_laws.proofs.RunPassed.{outputs_leave}
use Rattle.run_laws.proofs.outputs_leave.Goals as goal

pub returns : goal.returns
returns g c = outputs_leave g.B.Bus.may
