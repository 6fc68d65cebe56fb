use Rattle.std.proofs.Common.{◌≤◌, ◌<◌, ℕ, List, ◌++◌, ◌∙◌, length, append-nil, sym, ap, arith}
use Rattle.std.proofs.lemmas.List.{length-take-le, take_all}
use Rattle.toml.specs.View.{view, items_view}
use Rattle.toml.specs.declared.value.Value.{Value}
use Rattle.table_flow.specs.Flow.{lists_from}
use Rattle.lint_lines.specs.declared.line.LintLine.{LintLine}
use Rattle.lint_lines.proofs.LineSteps.{place_more}
use Rattle.document_lint.specs.IdleTasks.{idle_line, values_in}
use Rattle.document_lint.proofs.idle.push_tasks.Goals as goal

pub loop-place-init : goal.loop-place-init
loop-place-init c = sym (append-nil c.args.lines.now.items)

pub loop-place-preserved : goal.loop-place-preserved
loop-place-preserved c =
    let rows = values_in (items_view c.args.rows.now) in
    let tasks = c.args.tasks.now in
    let at = c.loop-place.place in
    let task : Value = c.index-tasks-place.result in
    let low : at < length tasks = c.loop-place-test.true in
    place_more c.args.lines.now.items c.loop-place.lines.items c.push_line.new.lines.items
    (λ (place : ℕ) (task : Value). idle_line rows place (view task)) tasks at task low
    (length-take-le at tasks (omega (arith, low))) c.loop-place.invariant
    (c.in_ok-push_line.ensures ∙ ap (λ (ls : List LintLine). c.loop-place.lines.items ++ ls)
    (c.idle_line.ensures ∙ ap (λ (t : Value). idle_line rows at (view t)) c.index-tasks-place.is))

pub returns : goal.returns
returns c =
    let rows = values_in (items_view c.args.rows.now) in
    let tasks = c.args.tasks.now in
    let end : length tasks ≤ c.loop-place.place = omega (arith, c.loop-place-test.false) in
    c.loop-place.invariant
    ∙ ap
    (λ (ts : List Value). c.args.lines.now.items
    ++ lists_from (λ (place : ℕ) (task : Value). idle_line rows place (view task)) 0 ts)
    (take_all c.loop-place.place tasks end)
