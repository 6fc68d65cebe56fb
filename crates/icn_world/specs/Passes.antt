-- What a pass of one cycle does. This project's own.
use Rattle.std.specs.Prelude.{◌≡◌, ◌<◌, ◌+◌, List, length, Some, None, Result, Ok, Err}
use Rattle.guards_model.specs.BusRules.{RuleValue}
use Rattle.guards_model.specs.Network.{EntryValue, Log, BusValue}
use Rattle.guards_model.specs.Texts.{RecordValue}
use Rattle.guards_world.specs.Worlds.{WorldValue, HaltValue, no_memory, StandsForWorld}
use Rattle.guards_world.specs.WorldCycle.{Carries, Ends}
use Rattle.world_laws.specs.Fronts.{IsUpToStop}

-- a world that may pass a cycle, by a log that stands for it
pub record MayPass (w : WorldValue) (L : Log) : Type 0 where
  pub stands : StandsForWorld w L
  pub below : w.done < w.mission.cycles
  pub unspent : w.spent ≡ None

-- the world that keeps the halt of an answer
abbrev pub keeping_halt : {A : Type 0} → Result A HaltValue → WorldValue → WorldValue
keeping_halt (Ok x) w = w
keeping_halt (Err halt) w = record w { spent = Some halt }

-- The entries were carried, and the cycle ended as the answer says, once the world keeps its halt. Where memory ran
-- out, none were carried after a stop.
pub record Passes (may : List RuleValue → EntryValue → Type 0) (old : WorldValue) (L : Log) (bus : BusValue)
    (result : Result RecordValue HaltValue) (new : WorldValue) (bus_after : BusValue) : Type 0 where
  pub now : Log
  pub carries : Carries may bus bus_after now
  pub count : new.carried ≡ old.carried + length now
  pub ends : Ends old L now result (keeping_halt result new)
  pub up_to_stop : result ≡ Err no_memory → IsUpToStop old.mission L now old.done
