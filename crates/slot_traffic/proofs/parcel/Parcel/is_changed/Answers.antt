use Rattle.std.proofs.Common.{◌∙◌, ap}
use Rattle.std.specs.List.{list_any}
use Rattle.guards_model.specs.Frames.{spelling}
use Rattle.slot_traffic.specs.declared.piece.Piece.{Piece}
use Rattle.slot_traffic.specs.Arrivals.{is_changed}
use Rattle.slot_traffic.proofs.Charging.{marked_any}
use Rattle.slot_traffic.proofs.parcel.Parcel.is_changed.Goals as goal

pub returns : goal.returns
returns c = rw (← c.self.view_is)
    (c.any_changed.ensures ∙ ap (list_any (λ (p : Piece). is_changed p.arrival)) c.as_slice.ensures
    ∙ marked_any (spelling c.self.inside.frame) c.self.inside.pieces.items c.self.invariant.marked)
