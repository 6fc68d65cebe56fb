use Rattle.std.proofs.Common.{take}
use Rattle.std.specs.Prelude.{flat_map}
use Rattle.context_blocks.specs.BlockSets.{flag_at}
use Rattle.table_flow.specs.Flow.{FlowsInto, write_assignments}
use Rattle.table_flow.proofs.reach.add_writes.Given as goal

abbrev pub invariant-loop-write : goal.invariant-loop-write
invariant-loop-write l = FlowsInto (flag_at l.kept) (flat_map write_assignments (take l.write-index l.writes))
    l.initial.flow l.flow
