use Rattle.std.proofs.Common.{length}
use Rattle.join_vote.proofs.sweeps.+with_start.Given as goal

abbrev pub decreases-with_start : goal.decreases-with_start
decreases-with_start l = length l.frames.now
