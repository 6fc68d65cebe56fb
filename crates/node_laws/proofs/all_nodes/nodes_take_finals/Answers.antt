use Rattle.node_laws.proofs.SlotNodes.{all_filled}
use Rattle.node_laws.proofs.all_nodes.nodes_take_finals.Goals as goal

pub returns : goal.returns
returns c = λ M L n steps got mission are. all_filled M L n steps got mission are
