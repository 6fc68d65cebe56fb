use Rattle.std.proofs.Common.{arith, ◌<◌, length}
use Rattle.std.specs.Fmt.{decimal}
use Rattle.campaign_text.proofs.PlusTexts.{plus_at}
use Rattle.campaign_text.proofs.causes.joined_channels.Goals as goal

pub loop-place-preserved : goal.loop-place-preserved
loop-place-preserved c =
    let below : c.loop-place.place < length c.args.channels.now = omega arith in
    let next = plus_at decimal c.args.channels.now c.loop-place.place 0 below in
    cc (next, c.in_ok-push_piece.ensures, c.in_ok-piece.ensures, c.deref.ensures, c.loop-place.invariant)
