use Rattle.std.proofs.Common.{◌≡◌, ◌-◌}
use Rattle.guards_model.specs.Fields.{many, item_at}
use Rattle.icn_frames.proofs.Loops.{with_front}
use Rattle.icn_frames.proofs.reading.Reader.read_items.Given as goal

abbrev pub invariant-loop : goal.invariant-loop
invariant-loop l = record {
  so_far : with_front l.items.items (many (item_at l.sender l.round) (l.count - l.counter) l.self)
      ≡ many (item_at l.sender l.round) l.count l.fn.self;
}
