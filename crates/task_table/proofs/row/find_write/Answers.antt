use Rattle.std.proofs.Common.{rules, tests, ◌≡◌, ◌∙◌, refl, sym, ap, subst, ℕ, ◌+◌, ◌-◌, ◌*◌, ◌<◌, ◌≤◌, ◌==◌, Bool, true, false, cond, ◌&&◌, ◌||◌, List, [], ◌∷◌, ◌++◌, length, take, drop, get_or, Option, Some, None, arith, length-append}
use Rattle.std.specs.Prelude.{slice_get}
use Rattle.std.proofs.lemmas.Option.{slice_get_read}
use Rattle.guards_model.specs.Tasks.{WriteValue, TaskValue}
use Rattle.task_table.specs.Tables.{nth_task, names_tasks}
use Rattle.task_table.proofs.RowWrites.{named_writes, write_here, write_later, task_read}
use Rattle.task_table.proofs.row.find_write.Goals as goal

-- the writes of the task that is read
writes_read : (tasks : List TaskValue) (row : List ℕ) (at : ℕ) (task : TaskValue) (writes inside : List WriteValue) →
    names_tasks (length tasks) row ≡ true → at < length row →
    task ≡ get_or tasks (get_or row at 0) task → inside ≡ task.writes → writes ≡ inside →
    (nth_task tasks (get_or row at 0)).writes ≡ writes
writes_read tasks row at task writes inside named low is view now =
    ap (λ t. t.writes) (task_read tasks row at task named low is) ∙ sym view ∙ sym now

pub returns-then-left-writes : goal.returns-then-left-writes
returns-then-left-writes c =
    let tasks = c.args.tasks.now in
    let row = c.args.row.now in
    let at = c.loop-place.place-index in
    let left = c.loop-place.left in
    let writes = c.as_slice-writes.result.now in
    let same = writes_read tasks row at c.index-tasks-place.result writes c.task.inside.writes.items c.requires
    c.loop-place-test.true c.index-tasks-place.is (ap (λ t. t.writes) c.task.view_is) c.as_slice-writes.ensures in
    let low : left < length writes = c.if-left-writes.true in
    let within : left < length (nth_task tasks (get_or row at 0)).writes =
    subst (λ ws. left < length ws) (sym same) low in
    sym (
    c.loop-place.invariant ∙ write_here tasks row at 0 left c.loop-place-test.true within
    ∙ ap (λ ws. slice_get ws left) same
    ∙ slice_get_read writes (length writes) left c.index-writes-left.result refl low c.index-writes-left.is
    )

pub loop-place-preserved : goal.loop-place-preserved
loop-place-preserved c =
    let tasks = c.args.tasks.now in
    let row = c.args.row.now in
    let at = c.loop-place.place-index in
    let left = c.loop-place.left in
    let writes = c.as_slice-writes.result.now in
    let same = writes_read tasks row at c.index-tasks-place.result writes c.task.inside.writes.items c.requires
    c.loop-place-test.true c.index-tasks-place.is (ap (λ t. t.writes) c.task.view_is) c.as_slice-writes.ensures in
    let past : length writes ≤ left = omega (arith, c.if-left-writes.false) in
    let beyond : length (nth_task tasks (get_or row at 0)).writes ≤ left =
    subst (λ ws. length ws ≤ left) (sym same) past in
    c.loop-place.invariant ∙ write_later tasks row at 0 left c.loop-place-test.true beyond
    ∙ ap (λ ws. slice_get (named_writes tasks (drop (at + 1) row)) (left - length ws)) same
