use Rattle.std.proofs.Common.{length}
use Rattle.world_nodes.proofs.decisions.+decide_each.Given as goal

abbrev pub decreases-decide_each : goal.decreases-decide_each
decreases-decide_each l = length l.nodes.now
