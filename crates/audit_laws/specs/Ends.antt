-- What is known of the cycles of a run that went on. This project's own.
use Rattle.std.specs.Prelude.{[], ◌∷◌}
use Rattle.guards_model.specs.Missions.{MissionValue}
use Rattle.guards_model.specs.Rounds.{Histories}
use Rattle.guards_runs.specs.Cycles.{Past}
use Rattle.guards_runs.specs.Promises.{Agrees}
use Rattle.guards_runs.specs.Report.{latest_steps, earlier_steps}
use Rattle.guards_world.specs.WorldCycle.{AreFull}

-- All channels agree in each of some cycles, of which the latest stands first, and the steps of each channel that
-- worked in it are full.
abbrev pub AreSoundlyDone : MissionValue → Histories → Past → Type 0
AreSoundlyDone M histories [] = Unit {0}
AreSoundlyDone M histories (e ∷ past) =
    Agrees M past e × AreFull M past e (latest_steps histories) × AreSoundlyDone M (earlier_steps histories) past
