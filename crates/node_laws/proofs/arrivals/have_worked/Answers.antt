use Rattle.node_laws.proofs.UpContexts.{all_worked}
use Rattle.node_laws.proofs.arrivals.have_worked.Goals as goal

pub returns : goal.returns
returns c = all_worked
