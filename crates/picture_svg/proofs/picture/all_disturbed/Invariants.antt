use Rattle.std.proofs.Common.{◌≡◌, flat_map, string_bytes}
use Rattle.std.specs.List.{range_with_len}
use Rattle.picture_svg.specs.Picture.{disturbed_text}
use Rattle.picture_svg.proofs.picture.all_disturbed.Given as goal

abbrev pub invariant-loop-number : goal.invariant-loop-number
invariant-loop-number l = string_bytes l.text ≡ flat_map (disturbed_text l.x l.set) (range_with_len 0 l.number)
