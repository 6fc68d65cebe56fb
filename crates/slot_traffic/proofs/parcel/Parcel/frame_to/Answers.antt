use Rattle.std.proofs.Common.{◌∙◌, ap, sym, map}
use Rattle.guards_model.specs.Frames.{spelling}
use Rattle.slot_traffic.specs.Pieces.{spelled_by}
use Rattle.slot_traffic.specs.Arrivals.{piece_value}
use Rattle.slot_traffic.proofs.parcel.Parcel.frame_to.Goals as goal

pub returns-clause-same : goal.returns-clause-same
returns-clause-same c =
    let sent = spelling c.self.inside.frame in
    let read = rw (← c.self.view_is) at c.requires.same in
    let same = c.first_frame.ensures.same sent
    (read ∙ ap (λ xs. map spelled_by (map (piece_value sent) xs)) (sym c.as_slice.ensures)) in
    rw (← c.self.view_is, ← c.as_slice.ensures) same
