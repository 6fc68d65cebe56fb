use Rattle.std.proofs.Common.{length}
use Rattle.world_nodes.proofs.finals.+put_finals.Given as goal

abbrev pub decreases-put_finals : goal.decreases-put_finals
decreases-put_finals g l = length l.channels.now
