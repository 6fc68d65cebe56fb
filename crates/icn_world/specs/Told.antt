-- What a cycle tells: the lines of the channels that run in a slot, as a record keeps them.
use Rattle.std.specs.Prelude.{◌≡◌, List, length, map, filter}
use Rattle.std.specs.List.{AllByRecursion}
use Rattle.guards_model.specs.declared.Slot.{Slot}
use Rattle.guards_model.specs.Missions.{MissionValue}
use Rattle.guards_model.specs.Modes.{is_up}
use Rattle.guards_model.specs.Ledgers.{LedgerValue, mode_of}
use Rattle.guards_model.specs.Texts.{LineValue}
use Rattle.guards_model.specs.Records.{shown_line}
use Rattle.guards_runs.specs.Cycles.{Cycle}
use Rattle.guards_runs.specs.Report.{line_of, channels_running_in}
use Rattle.guards_world.specs.WorldCycle.{IsLinePadded}

-- what of a line a report of the mission shows
abbrev pub shown_of : MissionValue → LineValue → LineValue
shown_of M line = shown_line M.rules.channels M.width (length M.outputs) line

-- these are the lines of the channels that run in the slot, in order, and the places that no report shows are empty
abbrev pub AreLinesOf : MissionValue → Cycle → Slot → List LineValue → Type 0
AreLinesOf M e slot lines = (map (shown_of M) lines ≡ map (line_of M e) (channels_running_in slot e))
    × AllByRecursion (IsLinePadded M) lines

-- the lines of the channels that are up
abbrev pub of_channels_up : LedgerValue → List LineValue → List LineValue
of_channels_up ledger lines = filter (λ line. is_up (mode_of ledger line.channel)) lines
