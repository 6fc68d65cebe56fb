-- Who sent a set with a channel.
use Rattle.std.specs.Prelude.{◌*◌, Bool, false, nat_lt, List, length, count_by, Option, Some, None}
use Rattle.guards_model.specs.Channels.{Channel, ChannelSet, has, place_or}

abbrev pub has_in : Channel → Option ChannelSet → Bool
has_in channel None = false
has_in channel (Some set) = has set channel

abbrev pub sent_with : List (Option ChannelSet) → Channel → Channel → Bool
sent_with sets channel sender = has_in channel (place_or sets sender None)

-- whether strictly more than half of the channels that are on sent a set with this one
unfoldable pub is_kept : ChannelSet → List (Option ChannelSet) → Channel → Bool
is_kept on sets channel = nat_lt (length on) (2 * count_by (sent_with sets channel) on)
