use Rattle.std.proofs.Common.{◌≡◌, ◌-◌}
use Rattle.guards_model.specs.Fields.{many, copy_at}
use Rattle.icn_frames.proofs.Loops.{with_front}
use Rattle.icn_frames.proofs.reading.Reader.read_copies.Given as goal

abbrev pub invariant-loop : goal.invariant-loop
invariant-loop l = record {
  so_far : with_front l.copies.items (many copy_at (l.count - l.counter) l.self) ≡ many copy_at l.count l.fn.self;
}
