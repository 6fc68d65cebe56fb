use Rattle.std.proofs.Common.{length}
use Rattle.join_vote.proofs.sweeps.+most_words.Given as goal

abbrev pub decreases-most_words : goal.decreases-most_words
decreases-most_words l = length l.rest.now
