use Rattle.std.proofs.Common.{◌∙◌, ◌&&◌, not, false, ap}
use Rattle.guards_model.specs.Channels.{ChannelSet, has, channels_where, place_or}
use Rattle.guards_model.specs.Modes.{down, scripted_mode_in_slot}
use Rattle.guards_model.specs.Ledgers.{LedgerValue, mode_of, is_down, ledger_in_slot}
use Rattle.fault_script.proofs.LedgerSteps.{stepped}
use Rattle.fault_script.proofs.ledger.Ledger.start_slot.Goals as goal

pub returns-clause-ledger : goal.returns-clause-ledger
returns-clause-ledger c =
    stepped c.self.inside.return_after c.self.inside.modes c.in_slot-self-inside.result c.self.inside.damaged
    c.marks-self-inside.result c.empty.result
    (λ q. scripted_mode_in_slot c.args.script.now q c.args.cycle c.args.slot (place_or c.self.inside.modes q down))
    (λ q. false)
    c.in_slot-self-inside.ensures (λ q low. ap (λ (set : ChannelSet). has set q) c.empty.ensures)
    c.marks-self-inside.ensures
    ∙ ap (ledger_in_slot c.args.script.now c.args.cycle c.args.slot) c.self.view_is

pub returns-clause-down : goal.returns-clause-down
returns-clause-down c =
    c.who_turned_down.ensures
    ∙ ap (λ (l : LedgerValue).
    channels_where (λ q. is_down (place_or c.in_slot-self-inside.result q down) && not (is_down (mode_of l q))))
    c.self.view_is
