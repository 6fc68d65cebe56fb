use Rattle.std.proofs.Common.{◌∙◌, ◌==◌, ap, sym}
use Rattle.std.specs.List.{list_any}
use Rattle.guards_model.specs.Frames.{spelling}
use Rattle.guards_model.proofs.ListTests.{any-map}
use Rattle.slot_traffic.specs.declared.piece.Piece.{Piece}
use Rattle.slot_traffic.specs.Pieces.{PieceValue}
use Rattle.slot_traffic.specs.Arrivals.{piece_value}
use Rattle.slot_traffic.proofs.parcel.Parcel.goes_to.Goals as goal

pub returns : goal.returns
returns c = rw (← c.self.view_is)
    (c.goes_to.ensures ∙ ap (list_any (λ (p : Piece). p.to == c.args.to)) c.as_slice.ensures
    ∙ sym (any-map (λ (p : PieceValue). p.to == c.args.to) (piece_value (spelling c.self.inside.frame))
    c.self.inside.pieces.items))
