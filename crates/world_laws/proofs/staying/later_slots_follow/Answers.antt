use Rattle.world_laws.proofs.Following.{follows}
use Rattle.world_laws.proofs.staying.later_slots_follow.Goals as goal

pub returns : goal.returns
returns c = follows
