use Rattle.std.proofs.Common.{◌∙◌, refl}
use Rattle.guards_model.specs.Damages.{is_damage}
use Rattle.fault_script.proofs.Others.{said_by_others}
use Rattle.fault_script.proofs.ledger.has_damage.Goals as goal

pub returns : goal.returns
returns c = c.any_damage.ensures
    ∙ said_by_others (is_damage c.args.channel c.args.cycle) (λ rule. refl) _ c.args.script.now c.others.ensures
