use Rattle.std.proofs.Common.{◌∙◌, ◌&&◌, not, ap}
use Rattle.std.specs.List.{list_any}
use Rattle.guards_model.specs.Channels.{ChannelSet, has, channels_where, place_or}
use Rattle.guards_model.specs.Modes.{down, is_joining, scripted_mode_at_start}
use Rattle.guards_model.specs.Damages.{is_damage}
use Rattle.guards_model.specs.Ledgers.{LedgerValue, mode_of, ledger_at_start}
use Rattle.guards_model.proofs.Tables.{has-channels_where}
use Rattle.fault_script.proofs.LedgerSteps.{stepped}
use Rattle.fault_script.proofs.ledger.Ledger.start_cycle.Goals as goal

pub returns-clause-ledger : goal.returns-clause-ledger
returns-clause-ledger c =
    stepped c.self.inside.return_after c.self.inside.modes c.started-self-inside.result c.self.inside.damaged
    c.marks-self-inside.result c.damages.result
    (λ q. scripted_mode_at_start c.args.script.now q c.args.cycle (place_or c.self.inside.modes q down))
    (λ q. list_any (is_damage q c.args.cycle) c.args.script.now)
    c.started-self-inside.ensures
    (λ q low. ap (λ (set : ChannelSet). has set q) c.damages.ensures
    ∙ has-channels_where (λ p. list_any (is_damage p c.args.cycle) c.args.script.now) q low)
    c.marks-self-inside.ensures
    ∙ ap (ledger_at_start c.args.script.now c.args.cycle) c.self.view_is

pub returns-clause-joining : goal.returns-clause-joining
returns-clause-joining c =
    c.who_turned_joining.ensures
    ∙ ap (λ (l : LedgerValue).
    channels_where (λ q. is_joining (place_or c.started-self-inside.result q down)
    && not (is_joining (mode_of l q)))) c.self.view_is
