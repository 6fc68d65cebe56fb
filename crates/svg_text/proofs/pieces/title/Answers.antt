use Rattle.std.proofs.Common.{rules, append_assoc}
use Rattle.svg_text.specs.Pieces.{title_text}
use Rattle.svg_text.proofs.pieces.title.Goals as goal

pub returns : goal.returns
unfolding title_text
returns c = simp append_assoc (search rules)
