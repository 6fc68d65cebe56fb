use Rattle.node_laws.proofs.VoteNodes.{all_voted}
use Rattle.node_laws.proofs.all_nodes.nodes_take_votes.Goals as goal

pub returns : goal.returns
returns c = λ M L n steps got mission are worked. all_voted M L n steps mission got are worked
