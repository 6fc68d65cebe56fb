-- What of a record a report shows: a record has places for the greatest mission, and a mission has so many channels,
-- words and outputs.
use Rattle.std.specs.Prelude.{ℕ, zero, suc, List, map, take, Option, Some, None}
use Rattle.guards_model.specs.declared.Actor.{Actor}
use Rattle.guards_model.specs.declared.Actor.TheVariants.{Task, Sweep}
use Rattle.guards_model.specs.Channels.{ChannelSet}
use Rattle.guards_model.specs.Transfers.{TransferValue}
use Rattle.guards_model.specs.Texts.{LineValue, RecordValue}

-- the actor of a step that is written as a number: 0 for a write, and else a copy
abbrev pub actor_of_step : ℕ → Actor
actor_of_step zero = Task
actor_of_step (suc n) = Sweep

-- the number of an actor's step
abbrev pub step_number : Actor → ℕ
step_number Task = 0
step_number Sweep = 1

-- a transfer that is written as its targets and its start
abbrev pub transfer_of_pair : Option (ChannelSet × ℕ) → Option TransferValue
transfer_of_pair None = None
transfer_of_pair (Some t) = Some (record { targets = t.0; start = t.1 })

abbrev pub shown_line : ℕ → ℕ → ℕ → LineValue → LineValue
shown_line channels width outputs l =
    record l { inputs = take width l.inputs; votes = take outputs l.votes; counts = take channels l.counts }

abbrev pub shown : ℕ → ℕ → ℕ → RecordValue → RecordValue
shown channels width outputs r = record r { lines = map (shown_line channels width outputs) r.lines }
