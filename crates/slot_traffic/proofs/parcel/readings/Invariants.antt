use Rattle.std.proofs.Common.{◌≡◌, map, take}
use Rattle.std.specs.Prelude.{IsTrue}
use Rattle.std.specs.List.{AllByRecursion}
use Rattle.guards_model.specs.Frames.{FrameValue, in_range, spelling}
use Rattle.slot_traffic.specs.Pieces.{spelled_by}
use Rattle.slot_traffic.specs.Arrivals.{IsReadingInRange, piece_value, reading_value}
use Rattle.slot_traffic.proofs.parcel.readings.Given as goal

abbrev pub invariant-loop-piece : goal.invariant-loop-piece
invariant-loop-piece l = record {
  same : (f : FrameValue) → IsTrue (in_range f) →
      map (reading_value f) l.readings.items
      ≡ map spelled_by (map (piece_value (spelling f)) (take l.piece-index l.pieces));
  range : AllByRecursion IsReadingInRange l.readings.items;
}
