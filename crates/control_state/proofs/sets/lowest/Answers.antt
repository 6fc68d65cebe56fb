use Rattle.std.proofs.Common.{◌∙◌}
use Rattle.control_state.proofs.Fronts.{front_is}
use Rattle.control_state.proofs.sets.lowest.Goals as goal

pub returns : goal.returns
returns c = c.front.ensures
    ∙ front_is c.args.set c.mask-mask.result c.args.most c.mask-mask.ensures.members c.mask-mask.ensures.below
    c.requires
