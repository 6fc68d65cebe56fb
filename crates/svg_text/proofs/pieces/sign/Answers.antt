use Rattle.std.proofs.Common.{rules, append_assoc}
use Rattle.svg_text.specs.Pieces.{svg_sign_text}
use Rattle.svg_text.proofs.pieces.sign.Goals as goal

pub returns : goal.returns
unfolding svg_sign_text
returns c = simp append_assoc (search rules)
