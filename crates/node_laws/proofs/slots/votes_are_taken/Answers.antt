use Rattle.guards_runs.specs.Cycles.{cycles_before}
use Rattle.guards_laws.proofs.ControlFacts.{controls_follow}
use Rattle.node_laws.proofs.NodeStepped.{votes, lines}
use Rattle.node_laws.proofs.slots.votes_are_taken.Goals as goal

pub returns-clause-state : goal.returns-clause-state
returns-clause-state c =
    λ M L n steps q ctx ballots low active works_with handed.
    votes M L (cycles_before M L n) steps q (controls_follow M L n) low active ctx works_with ballots handed

pub returns-clause-line : goal.returns-clause-line
returns-clause-line c =
    λ M L n steps q ctx ballots low active works_with handed.
    lines M L (cycles_before M L n) steps q (controls_follow M L n) low active ctx works_with ballots handed
