use Rattle.std.proofs.Common.{◌<◌, ◌≤◌, List, [], length, subst, arith}
use Rattle.std.specs.Prelude.{flat_map}
use Rattle.std.proofs.lemmas.List.{take_all}
use Rattle.std.proofs.lemmas.Option.{unwrap_or-slice_get}
use Rattle.guards_model.specs.Tasks.{TaskValue}
use Rattle.context_blocks.specs.BlockSets.{flag_at}
use Rattle.table_flow.specs.Flow.{FlowsInto, assignments, row_assignments}
use Rattle.table_flow.proofs.Flows.{flows_none, flows_more}
use Rattle.table_flow.proofs.reach.add_table.Goals as goal

pub loop-row-init : goal.loop-row-init
loop-row-init c = flows_none (flag_at c.args.kept.now) c.args.flow.now

pub loop-row-preserved : goal.loop-row-preserved
loop-row-preserved c =
    let rows = c.args.table.now.rows in
    let at = c.loop-row.row in
    let low : at < length rows = omega (arith, c.loop-row-test.true, c.rows-row-end.ensures.count) in
    flows_more (flag_at c.args.kept.now) rows at [] c.args.flow.now c.loop-row.flow c.add_row.new.flow row_assignments
    low c.loop-row.invariant
    (subst (λ (r : List TaskValue).
    FlowsInto (flag_at c.args.kept.now) (row_assignments r) c.loop-row.flow c.add_row.new.flow)
    (unwrap_or-slice_get rows at []) c.add_row.ensures)

pub returns : goal.returns
unfolding assignments
returns c =
    let rows = c.args.table.now.rows in
    let end : length rows ≤ c.loop-row.row = omega (arith, c.loop-row-test.false, c.rows-row-end.ensures.count) in
    subst (λ (rs : List (List TaskValue)).
    FlowsInto (flag_at c.args.kept.now) (flat_map row_assignments rs) c.args.flow.now c.loop-row.flow)
    (take_all c.loop-row.row rows end) c.loop-row.invariant
