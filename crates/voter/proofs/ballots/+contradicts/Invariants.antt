use Rattle.std.proofs.Common.{length}
use Rattle.voter.proofs.ballots.+contradicts.Given as goal

abbrev pub decreases-contradicts : goal.decreases-contradicts
decreases-contradicts l = length l.words.now
