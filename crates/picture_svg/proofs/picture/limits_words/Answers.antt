use Rattle.std.proofs.Common.{rules, append_assoc}
use Rattle.picture_svg.specs.Picture.{limits_words}
use Rattle.picture_svg.proofs.picture.limits_words.Goals as goal

pub returns : goal.returns
unfolding limits_words
returns c = simp append_assoc (search rules)
