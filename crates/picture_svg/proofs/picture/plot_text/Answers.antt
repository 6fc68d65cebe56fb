use Rattle.std.proofs.Common.{rules, append_assoc}
use Rattle.picture_svg.specs.Picture.{plot_text}
use Rattle.picture_svg.proofs.picture.plot_text.Goals as goal

pub returns : goal.returns
unfolding plot_text
returns c = simp append_assoc (search rules)
