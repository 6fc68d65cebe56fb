use Rattle.std.proofs.Common.{◌≡◌, ℕ, length, map, take}
use Rattle.guards_model.specs.Channels.{numbers_below}
use Rattle.guards_model.specs.Records.{shown_line}
use Rattle.guards_runs.specs.IdealReport.{ideal_line}
use Rattle.ideal_run.proofs.records.lines_of.Given as goal

-- the channels below this number have their lines
abbrev pub invariant-loop-number : goal.invariant-loop-number
invariant-loop-number l =
    (width : ℕ) → map (shown_line l.channels width (length l.ballot)) l.lines.items
    ≡ map (ideal_line l.channels (take width l.inputs) l.ballot) (numbers_below l.number)
