use Rattle.std.proofs.Common.{◌≡◌}
use Rattle.std.specs.Option.{option_copied}
use Rattle.oral_messages.specs.Received.{items_of_frame}
use Rattle.node_rows.proofs.Rounds.{hear_rules, hears}
use Rattle.node_rows.proofs.alone.receive.Goals as goal

pub returns-then-may_hear-clause-rules : goal.returns-then-may_hear-clause-rules
returns-then-may_hear-clause-rules c =
    hear_rules c.args.round c.args.from (items_of_frame (option_copied c.args.frame)) c.args.node.now c.receive.new.self
    c.requires.at c.receive.ensures

pub returns-then-may_hear-clause-at : goal.returns-then-may_hear-clause-at
returns-then-may_hear-clause-at c =
    hears c.args.round c.args.from (items_of_frame (option_copied c.args.frame)) c.args.node.now c.receive.new.self
    c.requires.at c.receive.ensures
