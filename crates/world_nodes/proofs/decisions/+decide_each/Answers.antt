use Rattle.world_nodes.proofs.NodesDecided.{decided_more, removed_later}
use Rattle.world_nodes.proofs.decisions.+decide_each.Goals as goal

pub returns-in-Some-first-clause-state : goal.returns-in-Some-first-clause-state
returns-in-Some-first-clause-state t c =
    decided_more c.args.mission.now c.args.cycle _ _ _ _ _ c.in-Some.ensures.cases.0 c.decide_one-first.ensures.state
    c.decide_each-later.ensures.state

pub returns-in-None-clause-state : goal.returns-in-None-clause-state
returns-in-None-clause-state t c =
    decided_more c.args.mission.now c.args.cycle _ _ _ _ _ c.in-Some.ensures.cases.0 c.decide_one-first.ensures.state
    c.decide_each-later.ensures.state

pub returns-in-None-clause-answer : goal.returns-in-None-clause-answer
returns-in-None-clause-answer t c =
    removed_later c.in-Some.node.now c.decide_one-first.new.node c.in-Some.rest.now c.decide_each-later.new.nodes _ _ _
    c.in-Some.ensures.cases.0 c.in-None.is c.decide_one-first.ensures.answer c.decide_each-later.ensures.answer
