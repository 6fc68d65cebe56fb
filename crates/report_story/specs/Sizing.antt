-- What reading a line answers where its sizes are known, and where they are not.
use Rattle.std.specs.Prelude.{◌≡◌, ◌<◌, ◌+◌, ◌/◌, ◌%◌, ℕ, false, Option, Some, None}
use Rattle.guards_model.specs.Texts.{TextValue}
use Rattle.guards_audit.specs.Lines.{ReportLine}
use Rattle.guards_audit.specs.Reading.{line_read}
use Rattle.run_audit.specs.declared.line.Sizes.{Sizes}
use Rattle.run_audit.specs.Values.{IsInUse, has_sizes, line_value}
use Rattle.report_story.specs.declared.sizes.SizedLine.{SizedLine}

-- the sizes of a number below 32
abbrev pub story_sizes_at : ℕ → ℕ → Sizes
story_sizes_at channels n = record { channels = channels; width = 1 + n / 8; outputs = 1 + n % 8 }

-- the line that the text spells has the sizes that it was read with
abbrev pub IsOf : TextValue → SizedLine → Type 0
IsOf text read = (line_read text ≡ Some (line_value read.sizes read.line)) × IsInUse read.sizes

-- a line of any of these sizes; none where the text spells no line that has any of them
abbrev pub ReadsAny : ℕ → TextValue → Option SizedLine → Type 0
ReadsAny channels text (Some read) = IsOf text read × (read.sizes.channels ≡ channels)
ReadsAny channels text None =
    (line : ReportLine) (n : ℕ) → line_read text ≡ Some line → n < 32 →
    has_sizes (story_sizes_at channels n) line ≡ false

-- a line of the known sizes, or of any
abbrev pub ReadsSized : ℕ → Option Sizes → TextValue → Option SizedLine → Type 0
ReadsSized channels None text read = ReadsAny channels text read
ReadsSized channels (Some s) text (Some read) = IsOf text read × (read.sizes ≡ s)
ReadsSized channels (Some s) text None = (line : ReportLine) → line_read text ≡ Some line → has_sizes s line ≡ false
