use Rattle.std.proofs.Common.{◌≡◌}
use Rattle.std.specs.Io.KnownBytes.{Appends}
use Rattle.mission_check.proofs.RowTexts.{rows_before}
use Rattle.mission_check.proofs.check.put_rows.Given as goal

-- the lines of the rows before this one were written
abbrev pub invariant-loop-row : goal.invariant-loop-row
invariant-loop-row g l = record {
  written : Appends (g.K.Sink.seen l.initial.out).written (g.K.Sink.seen l.out).written
      (rows_before l.table.rows l.row);
  kept : (g.K.Sink.seen l.out).faults ≡ (g.K.Sink.seen l.initial.out).faults;
}
