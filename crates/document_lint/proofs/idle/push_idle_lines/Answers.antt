use Rattle.std.proofs.Common.{◌≡◌, ◌++◌, ◌∙◌, ℕ, List, ap, subst}
use Rattle.std.specs.Prelude.{OnOk, codes}
use Rattle.toml.specs.Data.{Data, get_member}
use Rattle.toml.specs.View.{items_view, table_view}
use Rattle.table_flow.specs.Flow.{lists_from}
use Rattle.lint_lines.specs.declared.line.LintLine.{LintLine}
use Rattle.document_lint.specs.IdleTasks.{array_values, idle_line, idle_lines, values_in}
use Rattle.document_lint.proofs.Values.{listed_values}
use Rattle.document_lint.proofs.idle.push_idle_lines.Goals as goal

pub returns : goal.returns
unfolding idle_lines
returns c =
    let rows = values_in (items_view c.values_at.result.now) in
    let tasks = c.values_at-2.result.now in
    let given = array_values (get_member (codes "table") (table_view c.args.fields.now)) in
    subst
    (λ (ls : List LintLine). OnOk c.push_tasks.result (c.push_tasks.new.lines.items ≡ c.args.lines.now.items ++ ls))
    (listed_values (idle_line rows) 0 tasks
    ∙ ap (λ (rs : List Data). lists_from (idle_line rs) 0 (values_in (items_view tasks))) c.values_at.ensures
    ∙ ap (λ (ts : List Data). lists_from (idle_line given) 0 ts) c.values_at-2.ensures) c.push_tasks.ensures
