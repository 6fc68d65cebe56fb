-- What drawing a report does, by the status.
use Rattle.std.specs.Prelude.{◌≡◌, ◌≤◌, ◌<◌, ◌+◌, ◌⊎◌, ℕ, Bool, true, false, List, length, Option, None, Some, Ok, Err}
use Rattle.std.specs.List.{list_any}
use Rattle.std.specs.Io.KnownBytes.{Consumes}
use Rattle.guards_io.specs.Causes.{Rose}
use Rattle.guards_io.specs.Views.{SourceView, SinkView}
use Rattle.guards_io.specs.Writes.{WritesLine}
use Rattle.guards_model.specs.Missions.{MissionValue}
use Rattle.guards_audit.specs.Lines.{lines_in}
use Rattle.run_audit.specs.declared.line.Sizes.{Sizes}
use Rattle.run_audit.specs.Marks.{is_mark, mission_bytes, trace_bytes}
use Rattle.run_audit.specs.Values.{sizes_of}
use Rattle.mission_text.specs.Mission.{mission_of}
use Rattle.mission_check.specs.declared.limit.TheConstants.{MAX_MISSION_BYTES}
use Rattle.mission_check.specs.declared.status.Status.TheVariants.{Done, Usage, BadMission, TooLong, ReadFault, NoMemory}
use Rattle.mission_check.specs.Lines.{long_line, mission_line, read_line}
use Rattle.mission_check.specs.Reading.{TakesBytes, TakesUpTo, Tells}
use Rattle.mission_check.specs.Statuses.{status_code}
use Rattle.report_story.specs.declared.reader.RunSizes.{RunSizes}
use Rattle.report_story.specs.Places.{StoryPlace, story_of}
use Rattle.picture_marks.specs.declared.facts.Limits.{Limits}
use Rattle.picture_marks.specs.Marks.{marks_of}
use Rattle.picture_svg.specs.Picture.{svg_of}
use Rattle.picture_run.specs.declared.status.TheConstants.{MAX_INPUT_BYTES}
use Rattle.picture_run.specs.declared.status.PictureStatus.{PictureStatus}
use Rattle.picture_run.specs.declared.status.PictureStatus.TheVariants.{BadReport, Ended}
use Rattle.picture_run.specs.Lines.{picture_usage, long_report_line, bad_line}

-- ---- what is drawn

abbrev pub outputs_of_sizes : Option Sizes → ℕ
outputs_of_sizes None = 0
outputs_of_sizes (Some s) = s.outputs

-- the picture of what a report tells, with the limits of its mission where that is known
abbrev pub picture_of : Option Limits → StoryPlace → List ℕ
picture_of limits p =
    svg_of limits p.channels (outputs_of_sizes p.sizes) p.cycles (length p.told) p.ending
    (marks_of limits p.channels (outputs_of_sizes p.sizes) p.told)

-- what a mission says to the picture, and to the lines of its report
abbrev pub limits_of : MissionValue → Limits
limits_of M = record { threshold = M.rules.threshold; last = M.rules.last }

abbrev pub run_sizes : MissionValue → RunSizes
run_sizes M = record { cycles = M.cycles; sizes = sizes_of M }

-- What drawing a report does, of a mission that is known or of any: where it is a report its picture is written, and
-- else its first line that may not come where it stands is told. Memory may run out before that.
abbrev pub DrawsReport : Option Limits → Option RunSizes → List ℕ → SinkView → SinkView → PictureStatus → Type 0
DrawsReport limits known report old new (BadReport line) =
    (story_of known report ≡ Err line) × WritesLine old new (bad_line line)
DrawsReport limits known report old new (Ended NoMemory) =
    (new ≡ old)
    ⊎ ((p : StoryPlace) × (story_of known report ≡ Ok p) × Tells (picture_of limits p) old new NoMemory)
DrawsReport limits known report old new (Ended status) =
    (p : StoryPlace) × (story_of known report ≡ Ok p) × Tells (picture_of limits p) old new status

-- ---- a mission before its report

-- the bytes are those of a mission
abbrev pub IsMissionText : List ℕ → MissionValue → Type 0
IsMissionText bytes M = (length bytes ≤ MAX_MISSION_BYTES) × (mission_of bytes ≡ Ok M)

-- What drawing a report does that comes after its mission: the mission's bytes are too many, or are none; or the report
-- is drawn with the mission's limits, where it has its sizes.
abbrev pub DrawsStream : List ℕ → List ℕ → SinkView → SinkView → PictureStatus → Type 0
DrawsStream mission report old new (Ended TooLong) = (MAX_MISSION_BYTES < length mission) × WritesLine old new long_line
DrawsStream mission report old new (Ended (BadMission why)) =
    (length mission ≤ MAX_MISSION_BYTES) × (mission_of mission ≡ Err why) × WritesLine old new (mission_line why)
DrawsStream mission report old new (Ended NoMemory) =
    (new ≡ old)
    ⊎ ((M : MissionValue) × IsMissionText mission M
    × DrawsReport (Some (limits_of M)) (Some (run_sizes M)) report old new (Ended NoMemory))
DrawsStream mission report old new status =
    (M : MissionValue) × IsMissionText mission M
    × DrawsReport (Some (limits_of M)) (Some (run_sizes M)) report old new status

-- whether some line of an input is the mark between a mission and its report
abbrev pub has_mark : List ℕ → Bool
has_mark input = list_any is_mark (lines_in input)

-- What drawing an input does: with a mark the mission before it and the report after it are read, and without one all
-- of it is the report.
abbrev pub DrawsBy : Bool → List ℕ → SinkView → SinkView → PictureStatus → Type 0
DrawsBy true input old new status = DrawsStream (mission_bytes input) (trace_bytes input) old new status
DrawsBy false input old new status = DrawsReport None None input old new status

abbrev pub Draws : List ℕ → SinkView → SinkView → PictureStatus → Type 0
Draws input old new status = DrawsBy (has_mark input) input old new status

-- ---- from a source

-- What the picture of what a source gives does.
abbrev pub Pictures : SourceView → SourceView → SinkView → SinkView → PictureStatus → Type 0
-- exactly where one byte too many was taken, or the mission's bytes are too many in an input that was read to its end
Pictures src src' out out' (Ended TooLong) =
    ((input : List ℕ) × (length input ≡ MAX_INPUT_BYTES + 1) × TakesBytes src src' input
    × WritesLine out out' long_report_line)
    ⊎ ((input : List ℕ) × TakesUpTo MAX_INPUT_BYTES src src' input × Draws input out out' (Ended TooLong))
-- only where the source's faults rose, and before the end of what is read
Pictures src src' out out' (Ended ReadFault) =
    (input : List ℕ) × (length input ≤ MAX_INPUT_BYTES) × Consumes src.left src'.left input
    × Rose src.faults src'.faults × WritesLine out out' read_line
-- while the source is read, at the latest with the byte that is too many; or once it is read
Pictures src src' out out' (Ended NoMemory) =
    ((input : List ℕ) × (length input ≤ MAX_INPUT_BYTES + 1) × TakesBytes src src' input × (out' ≡ out))
    ⊎ ((input : List ℕ) × TakesUpTo MAX_INPUT_BYTES src src' input × Draws input out out' (Ended NoMemory))
Pictures src src' out out' status =
    (input : List ℕ) × TakesUpTo MAX_INPUT_BYTES src src' input × Draws input out out' status

-- What the program does: with words it tells how it is used, and reads nothing; with none it draws.
abbrev pub Answers : ℕ → SourceView → SourceView → SinkView → SinkView → PictureStatus → Type 0
Answers words src src' out out' (Ended Usage) = (1 ≤ words) × (src' ≡ src) × WritesLine out out' picture_usage
Answers words src src' out out' status = (words ≡ 0) × Pictures src src' out out' status

-- ---- completeness

-- an input is a report that tells this, alone or after its mission
abbrev pub HasStory : Bool → List ℕ → StoryPlace → Type 0
HasStory false input p = story_of None input ≡ Ok p
HasStory true input p =
    (M : MissionValue) × IsMissionText (mission_bytes input) M
    × (story_of (Some (run_sizes M)) (trace_bytes input) ≡ Ok p)

-- A report that the source tells is drawn to its end, unless memory runs out or a fault comes.
abbrev pub CompletesPicture : ℕ → SourceView → SourceView → SinkView → SinkView → PictureStatus → Type 0
CompletesPicture words src src' out out' status =
    (input : List ℕ) (p : StoryPlace) → words ≡ 0 → src.left ≡ Some input → length input ≤ MAX_INPUT_BYTES →
    HasStory (has_mark input) input p →
    (Rose src.faults src'.faults → ⊥) → (Rose out.faults out'.faults → ⊥) →
    (status ≡ Ended Done) ⊎ (status ≡ Ended NoMemory)

-- ---- the exit status

-- 3 where it is no report, and else that of `guards`
abbrev pub picture_code : PictureStatus → ℕ
picture_code (BadReport line) = 3
picture_code (Ended status) = status_code status
