use Rattle.std.proofs.Common.{◌≡◌, flat_map, string_bytes}
use Rattle.std.specs.List.{range_with_len}
use Rattle.picture_svg.specs.Picture.{output_name}
use Rattle.picture_svg.proofs.picture.output_names.Given as goal

abbrev pub invariant-loop-place : goal.invariant-loop-place
invariant-loop-place l = string_bytes l.text ≡ flat_map (output_name l.channels l.scales) (range_with_len 0 l.place)
