use Rattle.std.proofs.Common.{arith, ◌<◌, length}
use Rattle.report_text.proofs.ListTexts.{joined_next}
use Rattle.report_text.proofs.pieces.joined.Goals as goal

pub loop-place-preserved : goal.loop-place-preserved
loop-place-preserved g c =
    let below : c.loop-place.place < length c.args.items.now = omega arith in
    let next = joined_next g.S.Spelled.spelling c.args.items.now c.loop-place.place c.index-items-place.result below
    c.index-items-place.is in
    cc (next, c.in_ok-push_piece.ensures, c.in_ok-piece.ensures, c.deref.ensures, c.loop-place.invariant)
