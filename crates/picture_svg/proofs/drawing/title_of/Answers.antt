use Rattle.std.proofs.Common.{rules, append_assoc}
use Rattle.picture_svg.specs.Drawing.{title_of}
use Rattle.picture_svg.proofs.drawing.title_of.Goals as goal

pub returns : goal.returns
unfolding title_of
returns c = simp append_assoc (search rules)
