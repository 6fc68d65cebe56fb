use Rattle.std.proofs.Common.{rules, append_assoc}
use Rattle.picture_svg.specs.Picture.{sheet_text}
use Rattle.picture_svg.proofs.picture.sheet_text.Goals as goal

pub returns : goal.returns
unfolding sheet_text
returns c = simp append_assoc (search rules)
