use Rattle.std.proofs.Common.{◌∙◌}
use Rattle.told_cycles.proofs.StepLemmas.{writes_are}
use Rattle.told_cycles.proofs.work.count_writes.Goals as goal

pub returns : goal.returns
returns c = c.count_zeros.ensures ∙ writes_are c.args.steps.now
