use Rattle.oral_messages.proofs.SettledBranches.{same_masks}
use Rattle.oral_messages.proofs.words.same_set.Goals as goal

pub returns : goal.returns
returns c = same_masks c.args.a.now c.args.b.now c.mask.result c.mask-2.result c.mask.ensures.value
    c.mask-2.ensures.value c.mask.ensures.members c.mask-2.ensures.members
