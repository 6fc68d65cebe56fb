use Rattle.std.proofs.Common.{rules, append_assoc}
use Rattle.picture_svg.specs.Picture.{head_words}
use Rattle.picture_svg.proofs.picture.head_words.Goals as goal

pub returns : goal.returns
unfolding head_words
returns c = simp append_assoc (search rules)
