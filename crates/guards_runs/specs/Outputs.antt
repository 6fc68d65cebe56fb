-- The actuator of a run: who sends to it after each cycle, its words, and the stop of its slot. This project's own.
use Rattle.std.specs.Prelude.{◌≡◌, ℕ, zero, suc, ◌*◌, Bool, ◌&&◌, ◌||◌, ◌==◌, nat_le, ℤ, List, [], ◌∷◌, length, filter, find, Option, Some, None, option_and_then, if◌then◌else◌}
use Rattle.std.specs.List.{AllZip, list_any}
use Rattle.guards_model.specs.declared.Slot.TheVariants.{Switch, Output}
use Rattle.guards_model.specs.Slots.{same_slot}
use Rattle.guards_model.specs.Channels.{Channel, ChannelSet, has, place_or, by_channel}
use Rattle.guards_model.specs.Voting.{Ballots}
use Rattle.guards_model.specs.Missions.{MissionValue, ActuatorValue, output_words}
use Rattle.guards_model.specs.Frames.{spelling}
use Rattle.guards_model.specs.Network.{EntryValue, Log, is_carry, actuator}
use Rattle.guards_model.specs.Actuators.{ballot_spelled, output_frame, voted_words, words_moved, words_towards}
use Rattle.guards_model.specs.Texts.{StopValue}
use Rattle.guards_runs.specs.Cycles.{Cycle, Past, this_cycle, cycle_at}
use Rattle.guards_runs.specs.Disturbed.{differs_from, disturbed_channels, stop_in, first_of_two}
use Rattle.guards_runs.specs.Report.{channels_running_in}

-- ---- the words

-- the words that a channel sent in the output slot, where its frame counts
abbrev pub ballot_taken : ℕ → ℕ → Log → ℕ → Channel → Option (List ℤ)
ballot_taken version outputs L c q =
    ballot_spelled version outputs c q (option_and_then (λ e. e.delivered) (find (is_carry c Output q actuator) L))

abbrev pub ballots_taken : ℕ → ℕ → Log → ℕ → Ballots
ballots_taken version outputs L c = by_channel (ballot_taken version outputs L c)

-- the words after so many cycles
abbrev pub outputs_after : ℕ → List ℤ → List ℤ → Log → ℕ → List ℤ
outputs_after version steps start L zero = start
outputs_after version steps start L (suc c) =
    words_moved steps (outputs_after version steps start L c) (ballots_taken version (length start) L c)

-- the words of a mission's actuator after so many cycles
abbrev pub words_after : MissionValue → ActuatorValue → Log → ℕ → List ℤ
words_after M a L n = outputs_after M.rules.version a.steps a.start L n

-- the words of an actuator after so many cycles that did not stop: each moved by each cycle towards the output words of
-- the ideal context
abbrev pub ideal_outputs : MissionValue → List ℤ → List ℤ → Log → ℕ → List ℤ
ideal_outputs M steps start L zero = start
ideal_outputs M steps start L (suc c) =
    words_towards steps (ideal_outputs M steps start L c) (output_words M (cycle_at M L c).ideal_context)

-- ---- what is due

-- an entry is the due one of a channel with these words
pub record IsOutputDue (version c : ℕ) (q : Channel) (words : List ℤ) (entry : EntryValue) : Type 0 where
  pub cycle : entry.cycle ≡ c
  pub slot : entry.slot ≡ Output
  pub from : entry.from ≡ q
  pub to : entry.to ≡ actuator
  pub sent : entry.sent ≡ spelling (output_frame version c q words)

-- the output entries of a cycle: each channel that is active and up at its end sends the words of its vote
abbrev pub AreOutputsDue : ℕ → ℕ → Cycle → Log → Type 0
AreOutputsDue version c e now =
    AllZip (λ q entry. IsOutputDue version c q (voted_words (place_or e.voted q [])) entry)
    (channels_running_in Switch e) now

-- ---- the stop

-- a channel's output entry of cycle c was not delivered as sent
abbrev pub is_output_charge : ℕ → Channel → EntryValue → Bool
is_output_charge c q e = ((e.cycle == c && same_slot e.slot Output) && e.from == q) && differs_from e.sent e.delivered

-- those that are disturbed at the cycle's end, or whose output entry was not delivered as sent
abbrev pub output_disturbed : ℕ → Cycle → Log → ChannelSet
output_disturbed c e L =
    filter (λ q. has (disturbed_channels c e Switch) q || list_any (is_output_charge c q) L) e.active

-- the run stops where these are a third of the active channels or more
abbrev pub output_halts : ℕ → Cycle → Log → Bool
output_halts c e L = nat_le (length e.active) (3 * length (output_disturbed c e L))

-- the stop of a cycle's output slot, if there is one
abbrev pub output_stop : ℕ → Cycle → Log → Option StopValue
output_stop c e L =
    if output_halts c e L
    then Some (record { cycle = c; slot = Output; set = output_disturbed c e L; active = e.active }) else None

-- the first stop in some cycles, the latest first: by a slot of the nine, or by the output slot
abbrev pub acted_stop : Log → Past → Option StopValue
acted_stop L [] = None
acted_stop L (e ∷ past) =
    first_of_two (acted_stop L past) (first_of_two (stop_in (this_cycle past) e) (output_stop (this_cycle past) e L))
