use Rattle.std.proofs.Common.{refl}
use Rattle.guards_model.specs.Channels.{channels_where, set_of_mask}
use Rattle.guards_base.proofs.channel.ChanSet.empty.Goals as goal

pub returns : goal.returns
unfolding channels_where set_of_mask
returns c = refl
