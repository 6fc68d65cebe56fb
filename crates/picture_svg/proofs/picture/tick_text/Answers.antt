use Rattle.std.proofs.Common.{rules}
use Rattle.picture_svg.specs.Picture.{tick_text}
use Rattle.picture_svg.proofs.picture.tick_text.Goals as goal

pub returns : goal.returns
unfolding tick_text
returns c = search rules
