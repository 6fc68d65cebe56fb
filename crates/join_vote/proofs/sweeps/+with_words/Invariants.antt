use Rattle.std.proofs.Common.{length}
use Rattle.join_vote.proofs.sweeps.+with_words.Given as goal

abbrev pub decreases-with_words : goal.decreases-with_words
decreases-with_words l = length l.frames.now
