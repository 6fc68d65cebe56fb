use Rattle.std.proofs.Common.{length}
use Rattle.oral_messages.proofs.votes.+more_equal.Given as goal

abbrev pub decreases-more_equal : goal.decreases-more_equal
decreases-more_equal l = length l.values.now
