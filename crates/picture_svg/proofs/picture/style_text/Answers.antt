use Rattle.std.proofs.Common.{rules, append_assoc}
use Rattle.picture_svg.specs.Picture.{style_text}
use Rattle.picture_svg.proofs.picture.style_text.Goals as goal

pub returns : goal.returns
unfolding style_text
returns c = simp append_assoc (search rules)
