use Rattle.std.proofs.Common.{rules}
use Rattle.picture_svg.specs.Picture.{stopped_text}
use Rattle.picture_svg.proofs.picture.stopped_text.Goals as goal

pub returns : goal.returns
unfolding stopped_text
returns c = search rules
