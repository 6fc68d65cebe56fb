use Rattle.std.proofs.Common.{length, ap, ◌∙◌}
use Rattle.std.specs.Prelude.{sum_by}
use Rattle.slot_traffic.specs.Pieces.{ParcelValue}
use Rattle.guards_model.specs.Network.{TrafficValue}
use Rattle.slot_traffic.proofs.PieceCarriedLemmas.{pieces_counted}
use Rattle.slot_traffic.proofs.traffic.Traffic.len.Goals as goal

pub pieces_in-requires : goal.pieces_in-requires
pieces_in-requires c =
    let all = c.self.inside.parcels.items in
    let counted =
    ap (sum_by (λ (p : ParcelValue). length p.pieces)) c.as_slice.ensures
    ∙ pieces_counted c.self.inside.cycle c.self.inside.slot all
    ∙ ap (λ (t : TrafficValue). length t.entries) c.self.view_is in
    rw counted c.requires

pub returns : goal.returns
returns c =
    c.pieces_in.ensures ∙ ap (sum_by (λ (p : ParcelValue). length p.pieces)) c.as_slice.ensures
    ∙ pieces_counted c.self.inside.cycle c.self.inside.slot c.self.inside.parcels.items
    ∙ ap (λ (t : TrafficValue). length t.entries) c.self.view_is
