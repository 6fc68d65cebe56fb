use Rattle.std.proofs.Common.{[]}
use Rattle.guards_runs.specs.Cycles.{cycles_before}
use Rattle.guards_laws.proofs.ControlFacts.{controls_follow}
use Rattle.node_laws.proofs.NodeStepped.{closes, answers, stands_at_final, stands_at_switch}
use Rattle.node_laws.proofs.cycle.cycles_are_closed.Goals as goal

pub returns-clause-state : goal.returns-clause-state
returns-clause-state c = λ M L n steps q. closes M L (cycles_before M L n) steps q (controls_follow M L n)

pub returns-clause-answer : goal.returns-clause-answer
returns-clause-answer c = λ M L n q. answers M L (cycles_before M L n) [] q (controls_follow M L n)

pub returns-clause-last_copies : goal.returns-clause-last_copies
returns-clause-last_copies c =
    λ M L n steps q. stands_at_final M L (cycles_before M L n) steps q (controls_follow M L n)

pub returns-clause-switches : goal.returns-clause-switches
returns-clause-switches c = λ M L n steps q. stands_at_switch M L (cycles_before M L n) steps q (controls_follow M L n)
