use Rattle.std.proofs.Common.{◌≡◌, flat_map}
use Rattle.std.specs.List.{range_with_len}
use Rattle.picture_marks.specs.Marks.{channel_lanes}
use Rattle.picture_marks.proofs.spans.channel_lanes.Given as goal

abbrev pub invariant-loop-channel : goal.invariant-loop-channel
invariant-loop-channel l = l.lanes.items ≡ flat_map channel_lanes (range_with_len 0 l.channel)
