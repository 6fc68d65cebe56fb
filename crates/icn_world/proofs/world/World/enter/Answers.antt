use Rattle.std.proofs.Common.{List, ap, ◌∙◌}
use Rattle.guards_model.specs.Faults.{FaultValue}
use Rattle.guards_model.specs.Ledgers.{ledger_in_slot}
use Rattle.icn_world.proofs.Entering.{enters_by}
use Rattle.icn_world.proofs.world.World.enter.Goals as goal

pub returns-clause-state : goal.returns-clause-state
returns-clause-state c = λ earlier current steps before carried handed soon on inside.
    enters_by c.args.self.now _ earlier current steps before c.args.slot carried handed c.start_slot-down.new.self
    c.start_slot-down.result c.crash.new.self
    c.self.view_is inside soon on
    (c.start_slot-down.ensures.ledger
    ∙ ap (λ (s : List FaultValue). ledger_in_slot s c.self.inside.done c.args.slot c.self.inside.ledger)
    c.script.ensures)
    c.start_slot-down.ensures.down c.crash.ensures.state
