use Rattle.std.proofs.Common.{rules, append_assoc}
use Rattle.picture_svg.specs.Picture.{front_text}
use Rattle.picture_svg.proofs.picture.front_text.Goals as goal

pub returns : goal.returns
unfolding front_text
returns c = simp append_assoc (search rules)
