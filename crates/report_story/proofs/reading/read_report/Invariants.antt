use Rattle.std.proofs.Common.{◌≡◌, ◌+◌, ◌≤◌, length, Some}
use Rattle.guards_audit.specs.Lines.{lines_in}
use Rattle.report_story.specs.Places.{story_of, story_told}
use Rattle.report_story.specs.Answers.{IsPlace}
use Rattle.report_story.proofs.reading.read_report.Given as goal

-- what the rest tells from the place so far is what all lines tell, and no more lines were read than bytes
abbrev pub invariant-loop-rest : goal.invariant-loop-rest
invariant-loop-rest l = record {
  told : story_told l.known l.lines (Some l.reader) (lines_in l.rest) ≡ story_of l.known l.fn.report;
  place : IsPlace l.reader;
  few : l.lines + length l.rest ≤ length l.fn.report;
}

abbrev pub decreases-loop-rest : goal.decreases-loop-rest
decreases-loop-rest l = length l.rest
