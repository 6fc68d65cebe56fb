use Rattle.std.proofs.Common.{◌≡◌, ◌++◌, take}
use Rattle.toml.specs.View.{view, items_view}
use Rattle.table_flow.specs.Flow.{lists_from}
use Rattle.document_lint.specs.IdleTasks.{idle_line, values_in}
use Rattle.document_lint.proofs.idle.push_tasks.Given as goal

-- the lines on the tasks before this one were appended
abbrev pub invariant-loop-place : goal.invariant-loop-place
invariant-loop-place l = l.lines.items
    ≡ l.initial.lines.items
    ++ lists_from (λ place task. idle_line (values_in (items_view l.rows)) place (view task)) 0 (take l.place l.tasks)
