use Rattle.std.proofs.Common.{◌≡◌, List, ℕ, ◌++◌, length}
use Rattle.std.specs.Io.KnownBytes.{Appends}
use Rattle.guards_io.proofs.writing.write_all.Given as goal

-- what is before the rest was written
abbrev pub invariant-loop-rest : goal.invariant-loop-rest
invariant-loop-rest g l = record {
  written : (front : List ℕ) × (l.piece ≡ front ++ l.rest)
      × Appends (g.K.Sink.seen l.initial.out).written (g.K.Sink.seen l.out).written front;
  kept : (g.K.Sink.seen l.out).faults ≡ (g.K.Sink.seen l.initial.out).faults;
}

abbrev pub decreases-loop-rest : goal.decreases-loop-rest
decreases-loop-rest g l = length l.rest
