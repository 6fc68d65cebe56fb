use Rattle.std.proofs.Common.{◌≡◌, true, sym, subst}
use Rattle.guards_model.specs.Frames.{FrameValue, in_range, between, is_channel, fits_u32}
use Rattle.guards_model.proofs.Codecs.{both}
use Rattle.icn_frames.specs.Bodies.{view_body}
use Rattle.icn_frames.proofs.Short.{body_is_short}
use Rattle.icn_frames.proofs.encoding.encode.Goals as goal

pub put_body-requires : goal.put_body-requires
put_body-requires c =
    let h = subst (λ (f : FrameValue). in_range f ≡ true) (sym c.frame.view_is) c.requires in
    let version = both (between 1 2 c.frame.inside.version) _ h in
    let sender = both (is_channel c.frame.inside.sender) _ version.1 in
    let cycle = both (fits_u32 c.frame.inside.cycle) _ sender.1 in
    body_is_short c.frame.inside.version c.frame.inside.sender (view_body c.frame.inside.body) cycle.1
