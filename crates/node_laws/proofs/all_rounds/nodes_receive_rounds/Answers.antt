use Rattle.node_laws.proofs.RoundNodes.{all_first, all_second, no_second}
use Rattle.node_laws.proofs.all_rounds.nodes_receive_rounds.Goals as goal

pub returns-clause-first : goal.returns-clause-first
returns-clause-first c = λ M L n steps got mission are there. all_first M L n steps mission got are there

pub returns-clause-second : goal.returns-clause-second
returns-clause-second c = λ M L n steps got mission are there. all_second M L n steps mission got are there

pub returns-clause-no_second : goal.returns-clause-no_second
returns-clause-no_second c = λ M L n steps mission none. no_second M L n steps mission none
