use Rattle.std.proofs.Common.{◌≡◌, ◌∙◌, ap, map}
use Rattle.std.specs.Prelude.{IsTrue}
use Rattle.std.specs.List.{AllByRecursion}
use Rattle.guards_base.specs.Seen.{Seen}
use Rattle.guards_model.specs.Frames.{FrameValue, in_range, spelling}
use Rattle.slot_traffic.specs.declared.piece.Reading.{Reading}
use Rattle.slot_traffic.specs.Pieces.{spelled_by}
use Rattle.slot_traffic.specs.Arrivals.{AreRead, IsReadingInRange, piece_value, reading_value}
use Rattle.slot_traffic.proofs.PiecesRead.{both_ok}
use Rattle.slot_traffic.proofs.CountedInRange.{pieces_spell}
use Rattle.slot_traffic.proofs.parcel.Parcel.read.Goals as goal

pub returns : goal.returns
returns c = rw (← c.self.view_is)
    (both_ok (λ (r : Seen Reading). (f : FrameValue) → IsTrue (in_range f) →
    map (reading_value f) r.items ≡ map spelled_by (map (piece_value (spelling f)) c.as_slice.result.now))
    (λ (r : Seen Reading). AllByRecursion IsReadingInRange r.items)
    (λ (r : Seen Reading). AreRead
    (record {
      frame = c.self.inside.frame;
      pieces = map (piece_value (spelling c.self.inside.frame)) c.self.inside.pieces.items;
    }) r.items)
    c.readings.result
    (λ r same range.
    let read = same c.self.inside.frame c.self.invariant.range
    ∙ ap (λ xs. map spelled_by (map (piece_value (spelling c.self.inside.frame)) xs)) c.as_slice.ensures in
    record {
      same = read;
      range = range;
      spelled = pieces_spell c.self.inside.frame r.items
          (map (piece_value (spelling c.self.inside.frame)) c.self.inside.pieces.items) c.self.invariant.range range
          read;
    }) c.readings.ensures.same c.readings.ensures.range)
