use Rattle.join_vote.proofs.SameSets.{same_masks}
use Rattle.join_vote.proofs.finals.same_set.Goals as goal

pub returns : goal.returns
returns c = same_masks c.args.a.now c.args.b.now c.mask.result c.mask-2.result c.mask.ensures.value
    c.mask-2.ensures.value c.mask.ensures.members c.mask-2.ensures.members
