use Rattle.std.proofs.Common.{◌==◌, length, ap, ◌∙◌}
use Rattle.told_cycles.proofs.SetLemmas.{none_left}
use Rattle.told_cycles.proofs.sets.within.Goals as goal

pub returns : goal.returns
returns c = ap (λ n. n == 0) (c.count.ensures.value ∙ ap length c.difference.ensures) ∙ none_left c.args.a c.args.b
