use Rattle.std.proofs.Common.{arith, ◌<◌, length}
use Rattle.guards_model.specs.Channels.{place_or}
use Rattle.campaign_text.specs.Rows.{cause_text}
use Rattle.campaign_text.proofs.PlusTexts.{plus_at}
use Rattle.campaign_text.proofs.causes.joined_causes.Goals as goal

pub loop-place-preserved : goal.loop-place-preserved
loop-place-preserved c =
    let below : c.loop-place.place < length c.args.channels.now = omega arith in
    let next = plus_at (λ q. cause_text c.args.script.now (place_or c.args.firsts.now q 0) c.args.cycle q) c.args.channels.now c.loop-place.place 0 below in
    cc (next, c.in_ok-push_piece.ensures, c.cause_of-piece.ensures, c.loop-place.invariant)
