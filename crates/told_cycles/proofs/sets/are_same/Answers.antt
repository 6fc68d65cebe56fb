use Rattle.told_cycles.proofs.SetLemmas.{masks_tell}
use Rattle.told_cycles.proofs.sets.are_same.Goals as goal

pub returns : goal.returns
returns c = masks_tell c.args.a c.args.b c.mask.result c.mask-2.result c.mask.ensures.value c.mask-2.ensures.value
    c.mask.ensures.members c.mask-2.ensures.members
