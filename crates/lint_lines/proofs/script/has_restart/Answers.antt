use Rattle.std.proofs.Common.{◌∙◌, refl}
use Rattle.guards_model.specs.Modes.{is_restart}
use Rattle.fault_script.proofs.Others.{said_by_others}
use Rattle.lint_lines.proofs.script.has_restart.Goals as goal

pub returns : goal.returns
returns c = c.any_restart.ensures
    ∙ said_by_others (is_restart c.args.channel c.args.cycle) (λ rule. refl) _ c.args.script.now c.others.ensures
