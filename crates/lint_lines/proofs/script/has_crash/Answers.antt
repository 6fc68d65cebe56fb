use Rattle.std.proofs.Common.{◌∙◌, refl}
use Rattle.lint_lines.specs.ScriptLines.{is_crash_in}
use Rattle.fault_script.proofs.Others.{said_by_others}
use Rattle.lint_lines.proofs.script.has_crash.Goals as goal

pub returns : goal.returns
returns c = c.any_crash.ensures
    ∙ said_by_others (is_crash_in c.args.channel c.args.cycle) (λ rule. refl) _ c.args.script.now c.others.ensures
