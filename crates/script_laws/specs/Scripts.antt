-- Runs over a bus that does what the script says, up to their end. This project's own.
use Rattle.std.specs.Prelude.{◌≡◌, ◌<◌, ◌⊎◌, List, Some, None}
use Rattle.std.specs.List.{AllByRecursion}
use Rattle.guards_model.specs.declared.Slot.TheVariants.{Sweep}
use Rattle.guards_model.specs.BusRules.{RuleValue, lose}
use Rattle.guards_model.specs.Missions.{MissionValue, bus_rules}
use Rattle.guards_model.specs.Network.{Log}
use Rattle.guards_model.specs.ScriptedBus.{IsScripted}
use Rattle.guards_model.specs.Texts.{StopValue}
use Rattle.guards_runs.specs.Cycles.{cycles_before, cycle_at}
use Rattle.guards_runs.specs.Disturbed.{stop_in, stop_of}
use Rattle.guards_runs.specs.Due.{AreDueThrough}
use Rattle.guards_runs.specs.Promises.{IsRun}

-- A rule for the sweep slot loses the piece: none puts another in its place. A forged piece could be just the one that
-- is sent, where the copies fell so, and then its sender is not charged.
abbrev pub ForgesNoSweep : List RuleValue → Type 0
ForgesNoSweep rules = AllByRecursion (λ (rule : RuleValue). rule.slot ≡ Sweep → rule.act ≡ lose) rules

-- A run stopped: the cycles before ran, and of its own cycle the entries are the due ones up to the end of the slot
-- that stopped it.
pub record StopsAt (M : MissionValue) (L : Log) (stop : StopValue) : Type 0 where
  pub within : stop.cycle < M.cycles
  pub due : AreDueThrough M (cycles_before M L stop.cycle) (cycle_at M L stop.cycle) stop.slot L
  pub unstopped : stop_of (cycles_before M L stop.cycle) ≡ None
  pub stopped : stop_in stop.cycle (cycle_at M L stop.cycle) ≡ Some stop

-- A run over the scripted bus came to its end: all cycles ran, or it stopped.
abbrev pub IsScriptedRun : MissionValue → Log → Type 0
IsScriptedRun M L =
    AllByRecursion (IsScripted (bus_rules M)) L × (IsRun M L M.cycles ⊎ ((stop : StopValue) × StopsAt M L stop))
