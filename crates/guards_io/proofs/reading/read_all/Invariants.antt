use Rattle.std.proofs.Common.{◌≡◌, ◌≤◌, ◌+◌, ◌-◌, length}
use Rattle.std.specs.Io.KnownBytes.{Consumes}
use Rattle.guards_io.proofs.reading.read_all.Given as goal

-- what was taken so far stands in `bytes`
abbrev pub invariant-loop-bytes : goal.invariant-loop-bytes
invariant-loop-bytes g l = record {
  limit : length l.bytes.items ≤ l.limit + 1;
  taken : Consumes (g.S.Source.seen l.initial.src).left (g.S.Source.seen l.src).left l.bytes.items;
  kept : (g.S.Source.seen l.src).faults ≡ (g.S.Source.seen l.initial.src).faults;
}

abbrev pub decreases-loop-bytes : goal.decreases-loop-bytes
decreases-loop-bytes g l = l.limit + 1 - length l.bytes.items
