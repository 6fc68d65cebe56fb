-- The texts of a run with its actuator, if it has one. This project's own.
use Rattle.std.specs.Prelude.{ℕ, suc, Bool, true, false, List, [], ◌∷◌, ◌++◌, Option, Some, None, is_some, if◌then◌else◌}
use Rattle.guards_model.specs.Missions.{MissionValue, ActuatorValue}
use Rattle.guards_model.specs.Network.{Log, without_outputs}
use Rattle.guards_model.specs.Rounds.{Histories}
use Rattle.guards_model.specs.Texts.{TextValue, Part, StopValue, cycle_part, head_line, last_line, out_line, text_of_parts}
use Rattle.guards_runs.specs.Cycles.{Past, this_cycle, cycles_before}
use Rattle.guards_runs.specs.Disturbed.{stop_of}
use Rattle.guards_runs.specs.Outputs.{acted_stop, words_after}
use Rattle.guards_runs.specs.Report.{cycle_record, latest_steps, earlier_steps, report_parts, traced_parts}

-- ---- with an actuator

-- the parts of some cycles, of which the latest stands first: each ends with the words after it
abbrev pub acted_parts : Bool → MissionValue → ActuatorValue → Log → Histories → Past → List Part
acted_parts trace M a L histories [] = []
acted_parts trace M a L histories (e ∷ past) =
    acted_parts trace M a L (earlier_steps histories) past
    ++ (cycle_part trace (cycle_record M (latest_steps histories) (this_cycle past) e)
    ++ out_line (words_after M a L (suc (this_cycle past))) ∷ []) ∷ []

-- the cycles before the first stop, and the histories of these alone
abbrev pub acted_told : Log → Past → Past
acted_told L [] = []
acted_told L (e ∷ past) = if is_some (acted_stop L (e ∷ past)) then acted_told L past else e ∷ past

abbrev pub acted_histories : Log → Past → Histories → Histories
acted_histories L [] histories = histories
acted_histories L (e ∷ past) histories =
    if is_some (acted_stop L (e ∷ past)) then acted_histories L past (earlier_steps histories) else histories

-- the parts of the cycles of a run up to its first stop
abbrev pub acted_run_parts : Bool → MissionValue → ActuatorValue → Log → Histories → Past → List Part
acted_run_parts trace M a L histories cycles =
    (head_line M.rules.channels M.cycles ∷ []) ∷
    (acted_parts trace M a L (acted_histories L cycles histories) (acted_told L cycles)
    ++ (last_line M.cycles (acted_stop L cycles) ∷ []) ∷ [])

-- the cycles of a log of a mission with an actuator: their facts are those of the log without output entries
abbrev pub acted_cycles : MissionValue → Log → Past
acted_cycles M L = cycles_before M (without_outputs L) M.cycles

-- the report of a log of a mission with an actuator
unfoldable pub acted_report : Bool → MissionValue → ActuatorValue → Log → Histories → TextValue
acted_report trace M a L histories = text_of_parts (acted_run_parts trace M a L histories (acted_cycles M L))

-- ---- with or without one

-- the first stop of a log, by the mission's actuator
abbrev pub stop_with : Option ActuatorValue → MissionValue → Log → Option StopValue
stop_with None M L = stop_of (cycles_before M L M.cycles)
stop_with (Some a) M L = acted_stop L (acted_cycles M L)

-- the first stop of a log
abbrev pub first_stop : MissionValue → Log → Option StopValue
first_stop M L = stop_with M.actuator M L

-- the parts of the report of a log, by the mission's actuator, with or without the trace lines of these histories
abbrev pub parts_with : Option ActuatorValue → Bool → MissionValue → Log → Histories → List Part
parts_with None false M L histories = report_parts M L
parts_with None true M L histories = traced_parts M L histories
parts_with (Some a) trace M L histories = acted_run_parts trace M a L histories (acted_cycles M L)

-- the parts of the report of a log
abbrev pub whole_parts : Bool → MissionValue → Log → Histories → List Part
whole_parts trace M L histories = parts_with M.actuator trace M L histories

-- the report of a log
unfoldable pub whole_report : Bool → MissionValue → Log → Histories → TextValue
whole_report trace M L histories = text_of_parts (whole_parts trace M L histories)
