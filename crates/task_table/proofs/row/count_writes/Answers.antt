use Rattle.std.proofs.Common.{rules, tests, ◌≡◌, ◌∙◌, refl, sym, ap, subst, ℕ, ◌+◌, ◌-◌, ◌*◌, ◌<◌, ◌≤◌, ◌==◌, Bool, true, false, cond, ◌&&◌, ◌||◌, List, [], ◌∷◌, ◌++◌, length, take, drop, get_or, Option, Some, None, arith, length-append}
use Rattle.guards_model.specs.Tasks.{WriteValue}
use Rattle.task_table.specs.Tables.{nth_task}
use Rattle.task_table.proofs.RowWrites.{named_writes, named_more, task_read, few_writes}
use Rattle.task_table.proofs.row.count_writes.Goals as goal

pub loop-place-preserved : goal.loop-place-preserved
loop-place-preserved c =
    let tasks = c.args.tasks.now in
    let row = c.args.row.now in
    let at = c.loop-place.place-index in
    let this = nth_task tasks (get_or row at 0) in
    let same : this ≡ c.index-tasks-place.result =
    task_read tasks row at c.index-tasks-place.result c.requires.named c.loop-place-test.true
    c.index-tasks-place.is in
    let writes : length this.writes ≡ c.len-count.result =
    ap (λ t. length t.writes) same ∙ sym (ap (λ t. length t.writes) c.task.view_is) ∙ sym c.len-count.ensures in
    let more : length (named_writes tasks (take (at + 1) row))
    ≡ length (named_writes tasks (take at row) ++ this.writes) =
    ap length (named_more tasks row at 0 c.loop-place-test.true) in
    let sum = length-append (named_writes tasks (take at row)) this.writes in
    let few : length this.writes ≤ 16 = few_writes tasks (get_or row at 0) 16 c.requires.few in
    (omega (arith, c.loop-place.invariant.0, writes, more, sum), omega (arith, c.loop-place.invariant.1, writes, few))
