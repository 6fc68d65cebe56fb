use Rattle.std.proofs.Common.{◌≡◌, map}
use Rattle.std.specs.List.{range_with_len}
use Rattle.picture_svg.specs.Sheet.{scale_of}
use Rattle.picture_svg.proofs.sheet.scales.Given as goal

abbrev pub invariant-loop-output : goal.invariant-loop-output
invariant-loop-output l = l.scales.items ≡ map (scale_of l.marks) (range_with_len 0 l.output)
