use Rattle.std.proofs.Common.{length}
use Rattle.world_nodes.proofs.rounds.+receive_each.Given as goal

abbrev pub decreases-receive_each : goal.decreases-receive_each
decreases-receive_each g l = length l.nodes.now
