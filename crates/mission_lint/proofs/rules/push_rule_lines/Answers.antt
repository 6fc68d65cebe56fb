use Rattle.std.proofs.Common.{◌∙◌, ◌++◌, List, ap}
use Rattle.std.specs.Prelude.{flat_map}
use Rattle.guards_model.specs.Channels.{numbers_below}
use Rattle.lint_lines.specs.declared.line.LintLine.{LintLine}
use Rattle.lint_lines.proofs.LineSteps.{three_appended}
use Rattle.recovery_laws.specs.Lengths.{transfer_length}
use Rattle.mission_lint.specs.RuleLines.{join_lines, keep_lines, length_line, rule_lines, transfer_lines}
use Rattle.mission_lint.proofs.rules.push_rule_lines.Goals as goal

pub returns : goal.returns
unfolding rule_lines
returns c =
    let M = c.args.mission.now in
    let old = c.args.lines.now.items in
    let l1 = c.push_line.new.lines.items in
    let l2 = c.push_line-2.new.lines.items in
    three_appended old (join_lines M) (keep_lines M) (transfer_lines M) l1 l2 c.push_transfers.new.lines.items
    (c.in_ok-push_line.ensures ∙ ap (λ (ls : List LintLine). old ++ ls) c.join_line.ensures)
    (c.in_ok-push_line-2.ensures ∙ ap (λ (ls : List LintLine). l1 ++ ls) c.keep_line.ensures)
    (c.in_ok-push_transfers.ensures
    ∙ ap (λ n. l2 ++ flat_map (λ row. length_line row (transfer_length M row)) (numbers_below n)) c.rows_of.ensures)
