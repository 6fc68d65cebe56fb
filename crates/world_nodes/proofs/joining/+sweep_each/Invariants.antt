use Rattle.std.proofs.Common.{length}
use Rattle.world_nodes.proofs.joining.+sweep_each.Given as goal

abbrev pub decreases-sweep_each : goal.decreases-sweep_each
decreases-sweep_each g l = length l.nodes.now
