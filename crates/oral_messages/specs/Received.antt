-- What a frame, or none, hands in.
use Rattle.std.specs.Prelude.{◌≡◌, ℕ, IsTrue, List, [], Option, Some, None}
use Rattle.guards_model.specs.Channels.{Channel}
use Rattle.guards_model.specs.Frames.{ItemValue, ExchangeValue, exchange_in_range}

-- the items of a frame
abbrev pub items_of_frame : Option ExchangeValue → List ItemValue
items_of_frame None = []
items_of_frame (Some e) = e.items

-- a frame of the round that has a spelling for this sender
abbrev pub IsExchangeInRange : Option ExchangeValue → ℕ → Channel → Type 0
IsExchangeInRange None round from = Unit {0}
IsExchangeInRange (Some e) round from = (e.round ≡ round) × IsTrue (exchange_in_range from e)
