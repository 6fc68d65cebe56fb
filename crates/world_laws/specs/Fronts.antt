-- What was carried of a cycle, where memory runs out in it.
use Rattle.std.specs.Prelude.{◌≡◌, ◌≤◌, ℕ, true, ◌++◌, length, None, Result, Err}
use Rattle.guards_model.specs.declared.Slot.{Slot}
use Rattle.guards_model.specs.Missions.{MissionValue}
use Rattle.guards_model.specs.Network.{Log, BusValue}
use Rattle.guards_model.specs.Texts.{RecordValue}
use Rattle.guards_runs.specs.Cycles.{cycle_at}
use Rattle.guards_runs.specs.Disturbed.{halts}
use Rattle.guards_runs.specs.Due.{carries_through}
use Rattle.guards_world.specs.Worlds.{WorldValue, HaltValue, no_memory, last_entries}
use Rattle.guards_world.specs.Passing.{IsFront}

-- The entries of a run end with the slot that stops it: by the facts of the log so far, no more was carried of cycle n
-- than up to the end of each slot in which a third of the active channels or more are disturbed.
abbrev pub IsUpToStop : MissionValue → Log → Log → ℕ → Type 0
IsUpToStop M earlier current n =
    (slot : Slot) → halts n (cycle_at M (earlier ++ current) n) slot ≡ true →
    length current ≤ length (carries_through n (cycle_at M (earlier ++ current) n) slot)

-- What was carried of cycle n is a front of the run's due entries: the first of the cycle's, and none after a stop.
pub record IsRunFront (M : MissionValue) (earlier current : Log) (n : ℕ) : Type 0 where
  pub front : IsFront M earlier current n
  pub up_to_stop : IsUpToStop M earlier current n

-- Where a call that passes one cycle of a world that is not spent answers that memory ran out, it carried nothing after
-- a stop.
abbrev pub CarriesUpToStop : WorldValue → BusValue → Result RecordValue HaltValue → BusValue → Type 0
CarriesUpToStop old bus result bus_after =
    old.spent ≡ None → result ≡ Err no_memory → (now : Log) → bus_after.log ≡ bus.log ++ now →
    IsUpToStop old.mission (last_entries old.carried bus.log) now old.done
