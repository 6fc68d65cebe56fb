use Rattle.std.proofs.Common.{List, ap, ◌∙◌}
use Rattle.guards_model.specs.declared.Slot.TheVariants.{Request}
use Rattle.guards_model.specs.Faults.{FaultValue}
use Rattle.guards_model.specs.Ledgers.{ledger_at_start, ledger_in_slot}
use Rattle.icn_world.proofs.Entering.{may_open_by, opens_by}
use Rattle.icn_world.proofs.world.World.open.Goals as goal

pub open-requires : goal.open-requires
open-requires c = may_open_by c.args.self.now _ c.self.view_is c.requires.stands

pub returns-clause-state : goal.returns-clause-state
returns-clause-state c = λ L steps stands.
    opens_by c.args.self.now _ L steps c.start_cycle-joining.new.self c.start_slot-down.new.self
    c.start_cycle-joining.result c.start_slot-down.result c.open.new.self c.crash.new.self
    c.self.view_is stands c.requires.below c.requires.unspent
    (c.start_cycle-joining.ensures.ledger
    ∙ ap (λ (s : List FaultValue). ledger_at_start s c.self.inside.done c.self.inside.ledger) c.script.ensures)
    c.start_cycle-joining.ensures.joining c.in_ok-open.ensures.state
    (c.start_slot-down.ensures.ledger
    ∙ ap (λ (s : List FaultValue). ledger_in_slot s c.self.inside.done Request c.start_cycle-joining.new.self)
    c.script-2.ensures)
    c.start_slot-down.ensures.down c.crash.ensures.state
