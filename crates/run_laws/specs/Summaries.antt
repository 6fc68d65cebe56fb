-- The summary of a run: its cycles in few numbers. This project's own.
use Rattle.std.specs.Prelude.{ℕ, ◌+◌, ℤ, List, [], ◌∷◌, length, Option, unwrap_or, option_map, slice_get}
use Rattle.guards_model.specs.declared.Slot.TheVariants.{Switch}
use Rattle.guards_model.specs.Channels.{place_or}
use Rattle.guards_model.specs.Missions.{MissionValue}
use Rattle.guards_model.specs.Network.{Log}
use Rattle.guards_model.specs.Texts.{TextValue, part_text}
use Rattle.guards_model.specs.CheckTexts.{summary_part}
use Rattle.guards_runs.specs.Cycles.{Past, cycles_before}
use Rattle.guards_runs.specs.Report.{channels_running_in}

-- how many channels were declared joined in some cycles
abbrev pub joins_in : Past → ℕ
joins_in [] = 0
joins_in (e ∷ past) = joins_in past + length e.joined

-- how many were removed
abbrev pub removals_in : Past → ℕ
removals_in [] = 0
removals_in (e ∷ past) = removals_in past + length e.removed

-- the votes of the lowest channel that runs at the end of the last of them; none where there is no such channel
abbrev pub last_votes : Past → List (Option ℤ)
last_votes [] = []
last_votes (e ∷ past) = unwrap_or (option_map (λ p. place_or e.voted p []) (slice_get (channels_running_in Switch e) 0))
    []

-- the summary of the run of the demo mission of a number
unfoldable pub summary : ℕ → MissionValue → Log → TextValue
summary number M L =
    part_text (summary_part number (joins_in (cycles_before M L M.cycles)) (removals_in (cycles_before M L M.cycles))
    (length L)
    (last_votes (cycles_before M L M.cycles)))
