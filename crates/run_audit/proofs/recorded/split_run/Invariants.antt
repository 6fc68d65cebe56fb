use Rattle.std.proofs.Common.{◌≡◌, List, ℕ, ◌++◌, length}
use Rattle.run_audit.specs.Marks.{mission_bytes, trace_bytes}
use Rattle.run_audit.proofs.recorded.split_run.Given as goal

-- no line before the rest is a mark
abbrev pub invariant-loop-line : goal.invariant-loop-line
invariant-loop-line l =
    (before : List ℕ) × (l.fn.input ≡ before ++ l.rest) × (mission_bytes l.fn.input ≡ before ++ mission_bytes l.rest)
    × (trace_bytes l.fn.input ≡ trace_bytes l.rest)

abbrev pub decreases-loop-line : goal.decreases-loop-line
decreases-loop-line l = length l.rest
