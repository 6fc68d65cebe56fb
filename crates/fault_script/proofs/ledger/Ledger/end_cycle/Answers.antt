use Rattle.std.proofs.Common.{◌∙◌, ◌&&◌, not, false, ap}
use Rattle.guards_model.specs.Channels.{ChannelSet, has, channels_where, place_or}
use Rattle.guards_model.specs.Modes.{down, is_up, mode_at_end}
use Rattle.guards_model.specs.Ledgers.{LedgerValue, mode_of, ledger_at_end}
use Rattle.fault_script.proofs.LedgerSteps.{stepped}
use Rattle.fault_script.proofs.ledger.Ledger.end_cycle.Goals as goal

pub returns-clause-ledger : goal.returns-clause-ledger
returns-clause-ledger c =
    stepped c.self.inside.return_after c.self.inside.modes c.ended-self-inside.result c.self.inside.damaged
    c.marks-self-inside.result c.empty.result
    (λ q. mode_at_end c.self.inside.return_after (has c.args.on q) (has c.args.taken q)
    (place_or c.self.inside.modes q down)) (λ q. false)
    c.ended-self-inside.ensures (λ q low. ap (λ (set : ChannelSet). has set q) c.empty.ensures)
    c.marks-self-inside.ensures
    ∙ ap (ledger_at_end c.args.on c.args.taken) c.self.view_is

pub returns-clause-reset : goal.returns-clause-reset
returns-clause-reset c =
    c.who_left_up.ensures
    ∙ ap (λ (l : LedgerValue).
    channels_where (λ q. is_up (mode_of l q) && not (is_up (place_or c.ended-self-inside.result q down))))
    c.self.view_is
