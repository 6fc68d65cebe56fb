use Rattle.std.proofs.Common.{◌&&◌, ap, ◌∙◌}
use Rattle.guards_model.specs.Channels.{ChannelSet, has}
use Rattle.guards_model.proofs.Tables.{has-channels_where}
use Rattle.guards_base.proofs.EachChannel.{members_where, sets_alike}
use Rattle.guards_base.proofs.channel.ChanSet.filter.Goals as goal

pub returns : goal.returns
returns g c p says =
    let set = c.args.self in
    c.intersection.ensures
    ∙ sets_alike (λ q. has set q && has c.set_by.result q) (λ q. has set q && p q)
    (λ q low. ap (λ b. has set q && b)
    (ap (λ (s : ChannelSet). has s q) (c.set_by.ensures p says) ∙ has-channels_where p q low))
    ∙ members_where set p c.flags-flags.ensures.members
