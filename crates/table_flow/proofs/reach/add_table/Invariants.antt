use Rattle.std.proofs.Common.{take}
use Rattle.std.specs.Prelude.{flat_map}
use Rattle.context_blocks.specs.BlockSets.{flag_at}
use Rattle.table_flow.specs.Flow.{FlowsInto, row_assignments}
use Rattle.table_flow.proofs.reach.add_table.Given as goal

abbrev pub invariant-loop-row : goal.invariant-loop-row
invariant-loop-row l = FlowsInto (flag_at l.kept) (flat_map row_assignments (take l.row l.table.rows)) l.initial.flow
    l.flow
