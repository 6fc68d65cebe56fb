use Rattle.std.proofs.Common.{subst}
use Rattle.guards_model.specs.Tasks.{WriteValue}
use Rattle.context_blocks.specs.BlockSets.{flag_at}
use Rattle.table_flow.specs.Flow.{FlowsInto, write_assignments}
use Rattle.table_flow.proofs.Flows.{flows_none, flows_more}
use Rattle.table_flow.proofs.reach.add_writes.Goals as goal

pub loop-write-init : goal.loop-write-init
loop-write-init c = flows_none (flag_at c.args.kept.now) c.args.flow.now

pub loop-write-preserved : goal.loop-write-preserved
loop-write-preserved c =
    flows_more (flag_at c.args.kept.now) c.args.writes.now c.loop-write.write-index c.write-item.result c.args.flow.now
    c.loop-write.flow c.add_write.new.flow
    write_assignments c.loop-write-test.true c.loop-write.invariant
    (subst (λ (w : WriteValue).
    FlowsInto (flag_at c.args.kept.now) (write_assignments w) c.loop-write.flow c.add_write.new.flow)
    c.write-item.is c.add_write.ensures)
