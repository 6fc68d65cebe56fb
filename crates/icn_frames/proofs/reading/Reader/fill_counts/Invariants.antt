use Rattle.std.proofs.Common.{◌≡◌, ◌-◌, length, take}
use Rattle.guards_model.specs.Fields.{many, count_at}
use Rattle.icn_frames.proofs.Loops.{with_front}
use Rattle.icn_frames.proofs.reading.Reader.fill_counts.Given as goal

abbrev pub invariant-loop-i : goal.invariant-loop-i
invariant-loop-i l = record {
  so_far : with_front (take l.i l.counts) (many count_at (length l.fn.counts - l.i) l.self)
      ≡ many count_at (length l.fn.counts) l.fn.self;
  places : length l.counts ≡ length l.fn.counts;
}
