use Rattle.std.proofs.Common.{rules, append_assoc}
use Rattle.picture_svg.specs.Picture.{foot_text}
use Rattle.picture_svg.proofs.picture.foot_text.Goals as goal

pub returns : goal.returns
unfolding foot_text
returns c = simp append_assoc (search rules)
