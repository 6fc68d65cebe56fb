-- What contracts see of a bus in memory.
use Rattle.std.specs.Prelude.{ℕ, List, Option, Some, None, unwrap_or, slice_get}
use Rattle.guards_model.specs.BusRules.{RuleValue, ActValue}
use Rattle.guards_model.specs.Network.{Log}
use Rattle.guards_model.specs.ScriptedBus.{delivered_piece}

-- a bus whose acts are listed: what is done to each carry in its turn
pub record MemBusValue : Type 0 where
  pub log : Log
  pub script : List RuleValue
  pub acts : List (Option ActValue)

-- what is delivered of a piece where this act was taken, if any
abbrev pub by_act : List ℕ → Option ActValue → Option (List ℕ)
by_act sent None = Some sent
by_act sent (Some act) = delivered_piece sent act

-- the act of a carry with so many before it; past the end there is none
abbrev pub act_in_turn : List (Option ActValue) → ℕ → Option ActValue
act_in_turn acts before = unwrap_or (slice_get acts before) None
