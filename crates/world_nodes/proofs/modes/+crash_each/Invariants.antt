use Rattle.std.proofs.Common.{length}
use Rattle.world_nodes.proofs.modes.+crash_each.Given as goal

abbrev pub decreases-crash_each : goal.decreases-crash_each
decreases-crash_each l = length l.nodes.now
