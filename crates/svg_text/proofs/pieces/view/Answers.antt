use Rattle.std.proofs.Common.{rules, append_assoc}
use Rattle.svg_text.specs.Pieces.{view_text}
use Rattle.svg_text.proofs.pieces.view.Goals as goal

pub returns : goal.returns
unfolding view_text
returns c = simp append_assoc (search rules)
