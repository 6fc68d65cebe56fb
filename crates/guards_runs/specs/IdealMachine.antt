-- The ideal machine: the one context of a run without faults, and the inputs on which all its channels agree.
use Rattle.std.specs.Prelude.{ℕ, zero, suc, ℤ, List, [], Option, Some, None, nat_lt, if◌then◌else◌}
use Rattle.guards_model.specs.Channels.{Channel, by_channel}
use Rattle.guards_model.specs.Contexts.{ContextValue}
use Rattle.guards_model.specs.Frames.{SourceValue}
use Rattle.guards_model.specs.Missions.{MissionValue, cycle_writes, sensor}
use Rattle.guards_model.specs.Tasks.{whole}
use Rattle.guards_model.specs.Voting.{inputs_of}

-- what a channel brings to a cycle where it accuses nobody and nobody asked
abbrev pub sensed_word : MissionValue → ℕ → Channel → SourceValue
sensed_word M c p = record { words = sensor M p c; accuse = []; heard = by_channel (λ q. 0) }

-- the same for a place of the table of channels, if there is the channel
abbrev pub sensed_at : MissionValue → ℕ → Channel → Option SourceValue
sensed_at M c p = if nat_lt p M.rules.channels then Some (sensed_word M c p) else None

-- what all channels bring to cycle c: no word is missing
abbrev pub sensed : MissionValue → ℕ → List (Option SourceValue)
sensed M c = by_channel (sensed_at M c)

-- the words that the tasks of cycle c read
unfoldable pub ideal_inputs : MissionValue → ℕ → List ℤ
ideal_inputs M c = inputs_of M.width (sensed M c)

-- the context after so many cycles
abbrev pub ideal : MissionValue → ℕ → ContextValue
ideal M zero = M.initial
ideal M (suc c) = whole (cycle_writes M c) (ideal M c) c (ideal_inputs M c)
