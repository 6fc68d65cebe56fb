use Rattle.std.proofs.Common.{length}
use Rattle.world_nodes.proofs.finals.+final_each.Given as goal

abbrev pub decreases-final_each : goal.decreases-final_each
decreases-final_each g l = length l.nodes.now
