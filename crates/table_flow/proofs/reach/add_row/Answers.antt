use Rattle.std.proofs.Common.{◌≡◌, ◌<◌, ◌≤◌, List, length, get_or, sym, subst, arith}
use Rattle.std.specs.Prelude.{flat_map}
use Rattle.std.proofs.lemmas.List.{take_all}
use Rattle.std.proofs.lemmas.Option.{get_or_from_slice_get}
use Rattle.guards_model.specs.Tasks.{TaskValue}
use Rattle.context_blocks.specs.BlockSets.{flag_at}
use Rattle.task_table.specs.Tables.{tasks_in_row}
use Rattle.table_flow.specs.Flow.{FlowsInto, row_assignments, task_assignments}
use Rattle.table_flow.proofs.Flows.{flows_none, flows_more}
use Rattle.table_flow.proofs.reach.add_row.Goals as goal

pub loop-place-init : goal.loop-place-init
loop-place-init c = flows_none (flag_at c.args.kept.now) c.args.flow.now

pub loop-place-preserved : goal.loop-place-preserved
loop-place-preserved c =
    let tasks = tasks_in_row c.args.table.now.rows c.args.row in
    let at = c.loop-place.place in
    let task = c.task.result.now in
    let low : at < length tasks = omega (arith, c.loop-place-test.true, c.row_len-place-end.ensures.count) in
    let this : get_or tasks at task ≡ task = get_or_from_slice_get tasks at task task c.task.ensures in
    flows_more (flag_at c.args.kept.now) tasks at task c.args.flow.now c.loop-place.flow c.add_task.new.flow
    task_assignments low c.loop-place.invariant
    (subst (λ (t : TaskValue).
    FlowsInto (flag_at c.args.kept.now) (task_assignments t) c.loop-place.flow c.add_task.new.flow) (sym this)
    c.add_task.ensures)

pub returns : goal.returns
unfolding row_assignments
returns c =
    let tasks = tasks_in_row c.args.table.now.rows c.args.row in
    let end : length tasks ≤ c.loop-place.place =
    omega (arith, c.loop-place-test.false, c.row_len-place-end.ensures.count) in
    subst (λ (ts : List TaskValue).
    FlowsInto (flag_at c.args.kept.now) (flat_map task_assignments ts) c.args.flow.now c.loop-place.flow)
    (take_all c.loop-place.place tasks end) c.loop-place.invariant
