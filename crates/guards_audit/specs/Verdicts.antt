-- The verdict on a trace, as it is found line by line, and what the auditor answers.
use Rattle.std.specs.Prelude.{ℕ, suc, Bool, true, false, List, [], ◌∷◌, Option, Some, None, option_and_then, if◌then◌else◌}
use Rattle.guards_model.specs.Missions.{MissionValue}
use Rattle.guards_model.specs.Texts.{TextValue}
use Rattle.guards_audit.specs.Lines.{ReportLine, lines_in}
use Rattle.guards_audit.specs.Consistency.{Place, at_head, at_end, suits_place, following_place}
use Rattle.guards_audit.specs.Reading.{line_read}

-- the place after a line that suits a place, or none
abbrev pub place_by : MissionValue → Place → ReportLine → Option Place
place_by M place line = if suits_place M place line then Some (following_place M place line) else None

unfoldable pub place_after : MissionValue → Place → TextValue → Option Place
place_after M place text = option_and_then (place_by M place) (line_read text)

abbrev pub is_at_end : Place → Bool
is_at_end at_end = true
is_at_end _ = false

-- what comes of a line: the number of a line that is not good, or what comes of the lines after it
abbrev pub or_on : ℕ → Option Place → (Place → Option ℕ) → Option ℕ
or_on number None on = Some number
or_on number (Some place) on = on place

-- the number of the first line that is not good, where the first of these lines has this number; or the number after
-- the last where there is no line before the trace is over
abbrev pub first_bad_from : MissionValue → ℕ → Place → List TextValue → Option ℕ
first_bad_from M number place [] = if is_at_end place then None else Some number
first_bad_from M number place (text ∷ texts) =
    or_on number (place_after M place text) (λ next. first_bad_from M (suc number) next texts)

unfoldable pub first_bad : MissionValue → TextValue → Option ℕ
first_bad M trace = first_bad_from M 1 at_head (lines_in trace)
