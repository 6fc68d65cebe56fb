use Rattle.std.proofs.Common.{rules, append_assoc}
use Rattle.picture_svg.specs.Picture.{stop_words}
use Rattle.picture_svg.proofs.picture.stop_words.Goals as goal

pub returns : goal.returns
unfolding stop_words
returns c = simp append_assoc (search rules)
