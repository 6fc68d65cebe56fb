use Rattle.run_laws.proofs.Driving.{driven_begins}
use Rattle.run_laws.proofs.driven.driven_runs_begin.Goals as goal

pub returns : goal.returns
returns g c = driven_begins g.B.Bus.may
