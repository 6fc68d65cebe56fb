use Rattle.std.proofs.Common.{◌∙◌, ◌++◌, [], List, ap}
use Rattle.lint_lines.specs.declared.line.LintLine.{LintLine}
use Rattle.lint_lines.specs.ScriptLines.{script_lines}
use Rattle.lint_lines.specs.WordLines.{word_lines}
use Rattle.lint_lines.proofs.LineSteps.{three_appended}
use Rattle.mission_lint.specs.Lines.{lint_of}
use Rattle.mission_lint.specs.RuleLines.{rule_lines}
use Rattle.mission_lint.proofs.find.find_lines.Goals as goal

pub returns : goal.returns
unfolding lint_of
returns c =
    let M = c.args.mission.now in
    three_appended [] (rule_lines M) (script_lines M) (word_lines M) c.push_rule_lines.new.lines.items
    c.push_script_lines.new.lines.items c.push_word_lines.new.lines.items
    (c.in_ok-push_rule_lines.ensures ∙ ap (λ (ls : List LintLine). ls ++ rule_lines M) c.new-lines.ensures.items)
    c.in_ok-push_script_lines.ensures c.in_ok-push_word_lines.ensures
