use Rattle.std.proofs.Common.{◌++◌, ◌∙◌, append-nil, sym, ap}
use Rattle.lint_lines.specs.ScriptLines.{idle_rule}
use Rattle.lint_lines.proofs.LineSteps.{element_more}
use Rattle.lint_lines.proofs.script.push_idle_rules.Goals as goal

pub loop-rule-init : goal.loop-rule-init
loop-rule-init c = sym (append-nil c.args.lines.now.items)

pub loop-rule-preserved : goal.loop-rule-preserved
loop-rule-preserved c =
    let f = idle_rule c.args.channels c.args.rounds c.args.drives in
    element_more c.args.lines.now.items c.loop-rule.lines.items c.push_line.new.lines.items f c.args.rules.now
    c.loop-rule.rule-index c.rule-item.result c.loop-rule-test.true
    c.loop-rule.invariant
    (c.in_ok-push_line.ensures ∙ ap (λ ls. c.loop-rule.lines.items ++ ls) (c.idle_rule.ensures ∙ ap f c.rule-item.is))
