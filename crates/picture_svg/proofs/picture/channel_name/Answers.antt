use Rattle.std.proofs.Common.{rules}
use Rattle.picture_svg.specs.Picture.{channel_name}
use Rattle.picture_svg.proofs.picture.channel_name.Goals as goal

pub returns : goal.returns
unfolding channel_name
returns c = search rules
