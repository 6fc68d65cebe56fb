use Rattle.std.proofs.Common.{rules, append_assoc}
use Rattle.svg_text.specs.Pieces.{side_text}
use Rattle.svg_text.proofs.pieces.sides.Goals as goal

pub returns : goal.returns
unfolding side_text
returns c = simp append_assoc (search rules)
