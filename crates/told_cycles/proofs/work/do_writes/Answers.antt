use Rattle.std.proofs.Common.{length, ap, ◌∙◌}
use Rattle.task_table.specs.Tables.{table_writes}
use Rattle.told_cycles.proofs.ContextSizes.{apply_length}
use Rattle.told_cycles.proofs.work.do_writes.Goals as goal

pub apply_write-requires-clause-blocks : goal.apply_write-requires-clause-blocks
apply_write-requires-clause-blocks g c =
    ap length c.loop-step.invariant.done
    ∙ apply_length (table_writes c.args.table.now c.args.cycle) c.args.context.now c.args.cycle c.args.inputs.now
    c.loop-step.step
    ∙ c.requires
