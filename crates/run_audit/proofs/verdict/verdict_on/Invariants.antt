use Rattle.std.proofs.Common.{◌≡◌, ◌+◌, ◌≤◌, length}
use Rattle.guards_audit.specs.Lines.{lines_in}
use Rattle.guards_audit.specs.Consistency.{Place}
use Rattle.guards_audit.specs.Verdicts.{first_bad, first_bad_from}
use Rattle.told_cycles.specs.Standing.{StandsAt}
use Rattle.run_audit.proofs.Bounds.{Placed, rank}
use Rattle.run_audit.proofs.verdict.verdict_on.Given as goal

-- what is found of the rest, from the place so far, is what is found of the whole trace, and few lines stand before the
-- place
abbrev pub invariant-loop-rest : goal.invariant-loop-rest
invariant-loop-rest g l =
    (at : Place) × StandsAt l.mission at l.auditor
    × (first_bad_from l.mission l.line at (lines_in l.rest) ≡ first_bad l.mission l.fn.trace)
    × Placed l.mission at × (l.line ≤ rank l.mission at + 1)

abbrev pub decreases-loop-rest : goal.decreases-loop-rest
decreases-loop-rest g l = length l.rest
