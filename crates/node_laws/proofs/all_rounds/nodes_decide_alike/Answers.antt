use Rattle.node_laws.proofs.RoundNodes.{all_decided, all_decided_early}
use Rattle.node_laws.proofs.all_rounds.nodes_decide_alike.Goals as goal

pub returns-clause-third : goal.returns-clause-third
returns-clause-third c = λ M L n steps got mission are there alike. all_decided M L n steps mission got are there alike

pub returns-clause-no_third : goal.returns-clause-no_third
returns-clause-no_third c = λ M L n steps mission none alike. all_decided_early M L n steps mission none alike
