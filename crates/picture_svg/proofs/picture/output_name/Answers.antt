use Rattle.std.proofs.Common.{rules}
use Rattle.picture_svg.specs.Picture.{output_name}
use Rattle.picture_svg.proofs.picture.output_name.Goals as goal

pub returns : goal.returns
unfolding output_name
returns c = search rules
