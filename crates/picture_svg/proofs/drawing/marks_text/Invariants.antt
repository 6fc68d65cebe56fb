use Rattle.std.proofs.Common.{◌≡◌, flat_map, take, string_bytes}
use Rattle.picture_svg.specs.Drawing.{mark_text}
use Rattle.picture_svg.proofs.drawing.marks_text.Given as goal

abbrev pub invariant-loop-mark : goal.invariant-loop-mark
invariant-loop-mark l = string_bytes l.text ≡ flat_map (mark_text l.sheet l.scales) (take l.mark-index l.marks)
