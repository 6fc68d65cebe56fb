use Rattle.std.proofs.Common.{length}
use Rattle.world_nodes.proofs.opening.+open_each.Given as goal

abbrev pub decreases-open_each : goal.decreases-open_each
decreases-open_each l = length l.nodes.now
