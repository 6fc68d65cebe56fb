use Rattle.std.proofs.Common.{length}
use Rattle.world_nodes.proofs.ending.+end_each.Given as goal

abbrev pub decreases-end_each : goal.decreases-end_each
decreases-end_each l = length l.nodes.now
