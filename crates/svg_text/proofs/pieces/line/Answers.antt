use Rattle.std.proofs.Common.{rules, append_assoc}
use Rattle.svg_text.specs.Pieces.{svg_line_text}
use Rattle.svg_text.proofs.pieces.line.Goals as goal

pub returns : goal.returns
unfolding svg_line_text
returns c = simp append_assoc (search rules)
