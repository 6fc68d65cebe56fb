use Rattle.std.proofs.Common.{length}
use Rattle.world_nodes.proofs.rounds.+receive_from.Given as goal

abbrev pub decreases-receive_from : goal.decreases-receive_from
decreases-receive_from g l = length l.channels.now
