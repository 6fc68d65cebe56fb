use Rattle.std.proofs.Common.{rules}
use Rattle.svg_text.specs.Pieces.{label_text}
use Rattle.picture_svg.specs.Picture.{transfer_name}
use Rattle.picture_svg.proofs.picture.transfer_name.Goals as goal

pub returns : goal.returns
unfolding transfer_name label_text
returns c = search rules
