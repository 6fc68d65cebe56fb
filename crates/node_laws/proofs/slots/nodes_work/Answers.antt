use Rattle.std.proofs.Common.{[]}
use Rattle.guards_runs.specs.Cycles.{cycles_before}
use Rattle.guards_laws.proofs.ControlFacts.{controls_follow}
use Rattle.node_laws.proofs.NodeStepped.{origins, works}
use Rattle.node_laws.proofs.slots.nodes_work.Goals as goal

pub returns-clause-origin : goal.returns-clause-origin
returns-clause-origin c = λ M L n q. origins M L (cycles_before M L n) [] q (controls_follow M L n)

pub returns-clause-state : goal.returns-clause-state
returns-clause-state c = λ M L n steps q low. works M L (cycles_before M L n) steps q (controls_follow M L n) low
