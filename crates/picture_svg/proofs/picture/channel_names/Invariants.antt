use Rattle.std.proofs.Common.{◌≡◌, flat_map, string_bytes}
use Rattle.std.specs.List.{range_with_len}
use Rattle.picture_svg.specs.Picture.{channel_name}
use Rattle.picture_svg.proofs.picture.channel_names.Given as goal

abbrev pub invariant-loop-channel : goal.invariant-loop-channel
invariant-loop-channel l = string_bytes l.text ≡ flat_map channel_name (range_with_len 0 l.channel)
