-- What reading a text as the line of a stop answers.
use Rattle.std.specs.Prelude.{◌≡◌, Option, Some, None}
use Rattle.guards_model.specs.Texts.{TextValue, StopValue}
use Rattle.guards_audit.specs.Lines.{stop_told}
use Rattle.guards_audit.specs.Reading.{line_read}
use Rattle.report_story.specs.declared.stop.StopLine.{StopLine}

-- what the line of a stop says
abbrev pub story_stop : StopLine → StopValue
story_stop s = record { cycle = s.cycle; slot = s.slot; set = s.set; active = s.active }

-- the stop that the text spells, or none where it spells none
abbrev pub ReadsStop : TextValue → Option StopLine → Type 0
ReadsStop text (Some s) = line_read text ≡ Some (stop_told (story_stop s))
ReadsStop text None = (s : StopValue) → line_read text ≡ Some (stop_told s) → ⊥
