-- What is known of a cycle that is finished. This project's own.
use Rattle.std.specs.Prelude.{ℕ}
use Rattle.guards_model.specs.Channels.{ChannelSet}

-- its number, who was active in it, and who was disturbed at its end
pub record SettledValue : Type 0 where
  pub cycle : ℕ
  pub active : ChannelSet
  pub disturbed : ChannelSet
