use Rattle.std.proofs.Common.{ap, ◌∙◌, flat_map, arith, ◌≡◌}
use Rattle.std.specs.List.{range_with_len}
use Rattle.picture_marks.specs.Marks.{channel_lanes}
use Rattle.picture_marks.proofs.MarkLists.{flat_range}
use Rattle.picture_marks.proofs.spans.channel_lanes.Goals as goal

pub loop-channel-preserved : goal.loop-channel-preserved
loop-channel-preserved c =
    cc (flat_range channel_lanes c.loop-channel.channel, c.in_ok-push_channel.ensures, c.loop-channel.invariant)

pub returns : goal.returns
returns c =
    let all : c.loop-channel.channel ≡ c.args.channels = omega arith in
    c.loop-channel.invariant ∙ ap (λ n. flat_map channel_lanes (range_with_len 0 n)) all
