use Rattle.std.proofs.Common.{◌≡◌, sym, ◌∙◌}
use Rattle.node_rows.proofs.Decisions.{decide_rules, decides}
use Rattle.node_rows.proofs.alone.decide.Goals as goal

pub returns-clause-rules : goal.returns-clause-rules
returns-clause-rules c =
    c.requires.rules ∙ sym (decide_rules c.args.mission.now c.args.cycle 3 0 c.args.node.now c.decide-decision.new.self
    c.requires.at c.decide-decision.ensures.state)

pub returns-clause-decided : goal.returns-clause-decided
returns-clause-decided c =
    decides c.args.mission.now c.args.cycle 3 0 c.args.node.now c.decide-decision.new.self c.requires.at
    c.decide-decision.ensures.state
