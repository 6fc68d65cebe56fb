-- The front of a set.
use Rattle.std.specs.Prelude.{ℕ, filter, length, nat_lt}
use Rattle.guards_model.specs.Channels.{Channel, ChannelSet}

-- how many members are lower than a channel
abbrev pub rank_in : ChannelSet → Channel → ℕ
rank_in set q = length (filter (λ p. nat_lt p q) set)
