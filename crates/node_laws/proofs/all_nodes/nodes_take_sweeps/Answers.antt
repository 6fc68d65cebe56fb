use Rattle.node_laws.proofs.SlotNodes.{all_swept}
use Rattle.node_laws.proofs.all_nodes.nodes_take_sweeps.Goals as goal

pub returns : goal.returns
returns c = λ M L n steps got mission are. all_swept M L n steps got mission are
