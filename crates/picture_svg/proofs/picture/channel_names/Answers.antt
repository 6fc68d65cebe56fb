use Rattle.std.proofs.Common.{◌≡◌, ◌*◌, ◌∙◌, ap, flat_map, arith}
use Rattle.std.specs.List.{range_with_len}
use Rattle.picture_svg.specs.Picture.{channel_name}
use Rattle.picture_marks.proofs.MarkLists.{flat_range}
use Rattle.picture_svg.proofs.picture.channel_names.Goals as goal

pub loop-channel-preserved : goal.loop-channel-preserved
loop-channel-preserved c =
    let next = flat_range (channel_name) c.loop-channel.channel in
    cc (next, c.in_ok-push_str.ensures.bytes, c.in_ok-channel_name.ensures, c.deref.ensures, c.loop-channel.invariant)

pub returns : goal.returns
returns c =
    let all : c.loop-channel.channel ≡ c.args.channels = omega arith in
    c.loop-channel.invariant ∙ ap (λ n. flat_map (channel_name) (range_with_len 0 n)) all
