use Rattle.std.proofs.Common.{length}
use Rattle.world_nodes.proofs.work.+trace_each.Given as goal

abbrev pub decreases-trace_each : goal.decreases-trace_each
decreases-trace_each l = length l.nodes.now
