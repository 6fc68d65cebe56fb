use Rattle.node_laws.proofs.OpenNodes.{all_opened, all_entered}
use Rattle.node_laws.proofs.all_nodes.nodes_open_cycle.Goals as goal

pub returns-clause-opened : goal.returns-clause-opened
returns-clause-opened c =
    λ M L n steps nodes joining mission h joins. all_opened M L n mission steps nodes joining h joins

pub returns-clause-entered : goal.returns-clause-entered
returns-clause-entered c = λ M L n steps mission. all_entered M L n mission steps
