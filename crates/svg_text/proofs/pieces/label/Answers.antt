use Rattle.std.proofs.Common.{rules, append_assoc}
use Rattle.svg_text.specs.Pieces.{label_text}
use Rattle.svg_text.proofs.pieces.label.Goals as goal

pub returns : goal.returns
unfolding label_text
returns c = simp append_assoc (search rules)
