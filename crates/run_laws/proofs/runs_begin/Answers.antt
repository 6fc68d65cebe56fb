use Rattle.run_laws.proofs.RunPassed.{begins}
use Rattle.run_laws.proofs.runs_begin.Goals as goal

pub returns : goal.returns
returns g c = begins g.B.Bus.may
