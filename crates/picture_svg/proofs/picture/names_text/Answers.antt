use Rattle.std.proofs.Common.{rules}
use Rattle.picture_svg.specs.Picture.{names_text}
use Rattle.picture_svg.proofs.picture.names_text.Goals as goal

pub returns : goal.returns
unfolding names_text
returns c = search rules
