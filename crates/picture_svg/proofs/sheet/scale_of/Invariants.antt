use Rattle.std.proofs.Common.{◌≡◌, take}
use Rattle.picture_svg.specs.Sheet.{scale_of}
use Rattle.picture_svg.proofs.sheet.scale_of.Given as goal

abbrev pub invariant-loop-mark : goal.invariant-loop-mark
invariant-loop-mark l = l.scale ≡ scale_of (take l.mark-index l.marks) l.output
