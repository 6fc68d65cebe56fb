use Rattle.std.proofs.Common.{length}
use Rattle.world_nodes.proofs.votes.+vote_each.Given as goal

abbrev pub decreases-vote_each : goal.decreases-vote_each
decreases-vote_each g l = length l.nodes.now
