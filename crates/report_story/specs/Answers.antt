-- What taking a line answers, and what reading a report does.
use Rattle.std.specs.Prelude.{◌≡◌, ◌≤◌, ◌<◌, ℕ, Bool, true, false, List, length, Option, Some, None, Result, Ok, Err}
use Rattle.guards_model.specs.Texts.{TextValue, StopValue}
use Rattle.guards_audit.specs.Lines.{ReportLine, stop_told}
use Rattle.guards_audit.specs.Reading.{line_read}
use Rattle.run_audit.specs.declared.line.Sizes.{Sizes}
use Rattle.run_audit.specs.Values.{IsInUse}
use Rattle.report_story.specs.declared.reader.RunSizes.{RunSizes}
use Rattle.report_story.specs.declared.reading.BadReport.{BadReport}
use Rattle.report_story.specs.declared.reading.BadReport.TheVariants as bad
use Rattle.report_story.specs.Places.{StoryPlace, is_story_amid, is_story_head, suits_story, story_after, if_suits, story_of}

-- What holds of a place whatever was told: the channels and cycles are as many as a mission has, the sizes are in use
-- and theirs, and no more cycles are told than there are.
pub record IsPlace (p : StoryPlace) : Type 0 where
  pub least : 3 ≤ p.channels
  pub most : p.channels ≤ 7
  pub sized : (s : Sizes) → p.sizes ≡ Some s → IsInUse s × (s.channels ≡ p.channels)
  pub cycles : p.cycles ≤ 2000
  pub head : is_story_head p.stage ≡ true → length p.told ≡ 0
  pub amid : is_story_amid p.stage ≡ true → length p.told < p.cycles
  pub told : length p.told ≤ p.cycles

-- a line was taken where it may come, and the place is the one after it; and else it may not
abbrev pub StepsStory : Option RunSizes → StoryPlace → TextValue → Bool → StoryPlace → Type 0
StepsStory known p text true q = if_suits known p (line_read text) ≡ Some q
StepsStory known p text false q = if_suits known p (line_read text) ≡ None

-- no line that the text spells may come here, but for a stop
abbrev pub OnlyStops : StoryPlace → TextValue → Type 0
OnlyStops p text =
    (line : ReportLine) → line_read text ≡ Some line → ((s : StopValue) → line ≡ stop_told s → ⊥) →
    suits_story p line ≡ false

-- what reading a report answers: what it tells, or its first line that may not come where it stands
abbrev pub TellsStory : Option RunSizes → TextValue → Result StoryPlace BadReport → Type 0
TellsStory known text (Ok p) = (story_of known text ≡ Ok p) × IsPlace p
TellsStory known text (Err (bad.Line line)) = story_of known text ≡ Err line
TellsStory known text (Err bad.Memory) = Unit {0}
