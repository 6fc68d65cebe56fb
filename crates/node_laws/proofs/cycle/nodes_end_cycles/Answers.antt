use Rattle.node_laws.proofs.Ending.{ends}
use Rattle.node_laws.proofs.cycle.nodes_end_cycles.Goals as goal

pub returns : goal.returns
returns c = λ M L n steps q mission more run low. ends M L n steps q mission more run low
