use Rattle.node_laws.proofs.SlotNodes.{all_heard}
use Rattle.node_laws.proofs.all_nodes.nodes_hear_requests.Goals as goal

pub returns : goal.returns
returns c = λ M L n steps got mission are. all_heard M L n steps got mission are
