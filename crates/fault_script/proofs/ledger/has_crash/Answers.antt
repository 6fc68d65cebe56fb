use Rattle.std.proofs.Common.{◌∙◌, refl}
use Rattle.guards_model.specs.Modes.{is_crash_by}
use Rattle.fault_script.proofs.Others.{said_by_others}
use Rattle.fault_script.proofs.ledger.has_crash.Goals as goal

pub returns : goal.returns
returns c = c.any_crash.ensures
    ∙ said_by_others (is_crash_by c.args.channel c.args.cycle c.args.slot) (λ rule. refl) _ c.args.script.now
    c.others.ensures
