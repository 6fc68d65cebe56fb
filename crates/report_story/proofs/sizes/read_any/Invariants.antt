use Rattle.std.proofs.Common.{◌≡◌, ◌<◌, ℕ, false, Some}
use Rattle.guards_audit.specs.Lines.{ReportLine}
use Rattle.guards_audit.specs.Reading.{line_read}
use Rattle.run_audit.specs.Values.{has_sizes}
use Rattle.report_story.specs.Sizing.{story_sizes_at}
use Rattle.report_story.proofs.sizes.read_any.Given as goal

-- the text spells no line that has the sizes of a number before
abbrev pub invariant-loop-number : goal.invariant-loop-number
invariant-loop-number l =
    (line : ReportLine) (n : ℕ) → line_read l.bytes ≡ Some line → n < l.number →
    has_sizes (story_sizes_at l.channels n) line ≡ false
