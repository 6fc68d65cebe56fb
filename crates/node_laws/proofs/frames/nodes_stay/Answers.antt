use Rattle.node_laws.proofs.Staying.{node_stays}
use Rattle.node_laws.proofs.frames.nodes_stay.Goals as goal

pub returns : goal.returns
returns c = node_stays
