use Rattle.std.proofs.Common.{◌≡◌}
use Rattle.guards_model.specs.Tasks.{apply}
use Rattle.task_table.specs.Tables.{table_writes}
use Rattle.told_cycles.proofs.work.do_writes.Given as goal

-- the writes before this one are done
abbrev pub invariant-loop-step : goal.invariant-loop-step
invariant-loop-step g l = record {
  done : l.context ≡ apply (table_writes l.table l.cycle) l.initial.context l.cycle l.inputs l.step;
}
