use Rattle.std.proofs.Common.{sym, ap, ◌∙◌}
use Rattle.guards_model.specs.Channels.{ChannelSet, channels_where, has}
use Rattle.guards_base.specs.Flags.{members_of_mask}
use Rattle.guards_base.proofs.channel.ChanSet.flags.Goals as goal

pub returns-clause-members : goal.returns-clause-members
returns-clause-members c =
    c.mask-mask.ensures.members ∙ members_of_mask c.mask-mask.result c.mask-mask.ensures.below
    ∙ ap (λ (s : ChannelSet). channels_where (has s)) (sym c.mask-mask.ensures.members)
