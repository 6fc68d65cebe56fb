use Rattle.flow_laws.proofs.Steps.{dependence_closed}
use Rattle.flow_laws.proofs.laws.dependence_is_closed.Goals as goal

pub returns : goal.returns
returns c M w mission small fed = dependence_closed M mission w small fed
