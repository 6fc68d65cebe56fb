-- A world between two cycles of some run.
use Rattle.std.specs.Prelude.{List}
use Rattle.guards_model.specs.Missions.{MissionValue}
use Rattle.guards_model.specs.BusRules.{RuleValue}
use Rattle.guards_model.specs.Network.{EntryValue, Log, BusValue}
use Rattle.guards_model.specs.Rounds.{Histories}
use Rattle.guards_world.specs.Worlds.{WorldValue}
use Rattle.run_laws.specs.Runs.{IsBetween}

pub record IsRunning (may : List RuleValue → EntryValue → Type 0) (w : WorldValue) (bus : BusValue) : Type 0 where
  pub mission : MissionValue
  pub start : BusValue
  pub entries : Log
  pub histories : Histories
  pub at : IsBetween may mission start w bus entries entries histories
