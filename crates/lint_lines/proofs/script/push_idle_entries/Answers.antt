use Rattle.std.proofs.Common.{◌++◌, ◌∙◌, List, append-nil, sym, ap}
use Rattle.fault_script.specs.Entries.{fault_value}
use Rattle.fault_script.specs.declared.script.Fault.{Fault}
use Rattle.lint_lines.specs.declared.line.LintLine.{LintLine}
use Rattle.lint_lines.specs.ScriptLines.{idle_entry}
use Rattle.lint_lines.proofs.LineSteps.{element_more}
use Rattle.lint_lines.proofs.script.push_idle_entries.Goals as goal

pub loop-entry-init : goal.loop-entry-init
loop-entry-init c = sym (append-nil c.args.lines.now.items)

pub loop-entry-preserved : goal.loop-entry-preserved
loop-entry-preserved c =
    let f : Fault → List LintLine = λ entry. idle_entry c.args.script.now (fault_value entry) in
    element_more c.args.lines.now.items c.loop-entry.lines.items c.push_line.new.lines.items f c.args.entries.now
    c.loop-entry.entry-index c.entry-item.result c.loop-entry-test.true
    c.loop-entry.invariant
    (c.in_ok-push_line.ensures
    ∙ ap (λ ls. c.loop-entry.lines.items ++ ls) (c.idle_entry.ensures ∙ ap f c.entry-item.is))
