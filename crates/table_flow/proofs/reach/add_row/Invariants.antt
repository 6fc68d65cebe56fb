use Rattle.std.proofs.Common.{take}
use Rattle.std.specs.Prelude.{flat_map}
use Rattle.context_blocks.specs.BlockSets.{flag_at}
use Rattle.task_table.specs.Tables.{tasks_in_row}
use Rattle.table_flow.specs.Flow.{FlowsInto, task_assignments}
use Rattle.table_flow.proofs.reach.add_row.Given as goal

abbrev pub invariant-loop-place : goal.invariant-loop-place
invariant-loop-place l = FlowsInto (flag_at l.kept)
    (flat_map task_assignments (take l.place (tasks_in_row l.table.rows l.row))) l.initial.flow l.flow
