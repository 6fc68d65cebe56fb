use Rattle.std.proofs.Common.{◌≡◌, take}
use Rattle.picture_svg.specs.Sheet.{highest}
use Rattle.picture_svg.proofs.sheet.highest.Given as goal

abbrev pub invariant-loop-mark : goal.invariant-loop-mark
invariant-loop-mark l = l.most ≡ highest l.measure (take l.mark-index l.marks)
