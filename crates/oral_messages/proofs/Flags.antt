-- The members of a set, from its truth values.
use Rattle.std.proofs.Common.{◌≡◌, Bool, length, refl}
use Rattle.guards_model.specs.Channels.{Channel, by_channel, channels_where}
use Rattle.oral_messages.specs.Sets.{members}

pub members_by_channel : (f : Channel → Bool) → members (by_channel f) ≡ channels_where f
unfolding members by_channel channels_where
members_by_channel f = refl

pub length-by_channel : (f : Channel → Bool) → length (by_channel f) ≡ 7
unfolding by_channel
length-by_channel f = refl
