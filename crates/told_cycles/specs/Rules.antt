-- Rules of a cycle by a mission.
use Rattle.std.specs.Prelude.{ℕ, Option, Some, None}
use Rattle.guards_model.specs.Missions.{MissionValue}
use Rattle.guards_model.specs.Transfers.{TransferValue}

-- how many blocks a cycle with this transfer plans at most
abbrev pub most_planned : MissionValue → Option TransferValue → ℕ
most_planned M None = 0
most_planned M (Some t) = M.rules.sweep
