use Rattle.std.proofs.Common.{◌∙◌, refl}
use Rattle.lint_lines.specs.ScriptLines.{harms}
use Rattle.fault_script.proofs.Others.{said_by_others}
use Rattle.lint_lines.proofs.script.has_harm.Goals as goal

pub returns : goal.returns
returns c = c.any_harm.ensures
    ∙ said_by_others (harms c.args.channel c.args.cycle) (λ rule. refl) _ c.args.script.now c.others.ensures
