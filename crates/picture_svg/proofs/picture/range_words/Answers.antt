use Rattle.std.proofs.Common.{append_assoc, rules}
use Rattle.picture_svg.proofs.picture.range_words.Goals as goal

pub returns : goal.returns
returns c = simp append_assoc (search rules)
