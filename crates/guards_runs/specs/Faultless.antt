-- Runs without faults, over a bus that does what the script says.
use Rattle.std.specs.Prelude.{◌≡◌, ℕ, Bool, true, false, ◌++◌}
use Rattle.std.specs.List.{list_all, AllByRecursion}
use Rattle.guards_model.specs.Faults.{FaultValue, restart}
use Rattle.guards_model.specs.Missions.{MissionValue, bus_rules}
use Rattle.guards_model.specs.Network.{Log, AreFrom}
use Rattle.guards_model.specs.ScriptedBus.{IsScripted}
use Rattle.guards_runs.specs.Cycles.{cycles_before}
use Rattle.guards_runs.specs.Due.{AreDue}

-- a restart alone does nothing to a channel that is up
abbrev pub is_harmless : FaultValue → Bool
is_harmless (restart q c) = true
is_harmless _ = false

-- the script crashes and damages no channel and has no rule for the bus, and the bus does what the script says
pub record IsFaultless (M : MissionValue) (L : Log) : Type 0 where
  pub harmless : list_all is_harmless M.script ≡ true
  pub scripted : AllByRecursion (IsScripted (bus_rules M)) L

-- the entries of the first n cycles are the due ones, and what follows them is of later cycles
pub record HasDue (M : MissionValue) (L : Log) (n : ℕ) : Type 0 where
  pub before : Log
  pub later : Log
  pub entries : L ≡ before ++ later
  pub after : AreFrom n later
  pub due : AreDue M (cycles_before M L n) before
