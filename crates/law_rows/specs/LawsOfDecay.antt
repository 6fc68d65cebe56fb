-- A worked mission, under other laws of decay.
use Rattle.std.specs.Prelude.{ℕ}
use Rattle.guards_model.specs.declared.Law.{Law}
use Rattle.guards_model.specs.Missions.{MissionValue}
use Rattle.law_rows.specs.GoneInTime as row

-- whose threshold takes two judgements
abbrev pub decaying : Law → ℕ → ℕ → MissionValue
decaying law keep decrement =
    record row.mission {
      rules =
          record row.mission.rules { version = 2; law = law; keep = keep; decrement = decrement };
    }
