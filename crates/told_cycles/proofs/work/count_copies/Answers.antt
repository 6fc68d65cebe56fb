use Rattle.std.proofs.Common.{arith}
use Rattle.told_cycles.proofs.StepLemmas.{copies_are}
use Rattle.told_cycles.proofs.work.count_copies.Goals as goal

pub overflow_sub-result : goal.overflow_sub-result
overflow_sub-result c = omega (arith, copies_are c.args.steps.now, c.count_writes.ensures)

pub returns : goal.returns
returns c = omega (arith, copies_are c.args.steps.now, c.count_writes.ensures)
