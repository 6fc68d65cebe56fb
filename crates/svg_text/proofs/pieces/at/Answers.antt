use Rattle.std.proofs.Common.{rules, append_assoc}
use Rattle.svg_text.specs.Pieces.{at_text}
use Rattle.svg_text.proofs.pieces.at.Goals as goal

pub returns : goal.returns
unfolding at_text
returns c = simp append_assoc (search rules)
