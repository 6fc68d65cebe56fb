use Rattle.guards_runs.specs.Cycles.{cycles_before}
use Rattle.guards_laws.proofs.ControlFacts.{controls_follow}
use Rattle.node_laws.proofs.NodeStepped.{decides}
use Rattle.node_laws.proofs.slots.nodes_decide.Goals as goal

pub returns : goal.returns
returns c = λ M L n steps q alike. decides M L (cycles_before M L n) steps q (controls_follow M L n) alike
