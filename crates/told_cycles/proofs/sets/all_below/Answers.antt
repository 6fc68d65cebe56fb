use Rattle.std.proofs.Common.{◌^◌, ap, ◌∙◌}
use Rattle.std.specs.Prelude.{nat_lt}
use Rattle.guards_model.specs.Frames.{is_set}
use Rattle.guards_model.proofs.Numbers.{is_set_of_mask}
use Rattle.told_cycles.proofs.SetLemmas.{below_mask}
use Rattle.told_cycles.proofs.sets.all_below.Goals as goal

pub returns : goal.returns
returns c =
    ap (λ n. nat_lt c.mask.result n) c.power.ensures
    ∙ ap (λ m. nat_lt m (2 ^ c.args.bound)) c.mask.ensures.value
    ∙ below_mask c.args.set c.args.bound
    (ap is_set c.mask.ensures.members ∙ is_set_of_mask c.mask.result c.mask.ensures.below) c.requires
