use Rattle.node_laws.proofs.SlotNodes.{all_fell}
use Rattle.node_laws.proofs.all_nodes.nodes_enter_slots.Goals as goal

pub returns : goal.returns
returns c = λ M L n steps before slot handed mission soon on. all_fell M L n steps before slot handed mission soon on
