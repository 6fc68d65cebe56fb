use Rattle.std.proofs.Common.{length}
use Rattle.world_nodes.proofs.requests.+hear_from.Given as goal

abbrev pub decreases-hear_from : goal.decreases-hear_from
decreases-hear_from g l = length l.channels.now
