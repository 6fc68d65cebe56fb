use Rattle.std.proofs.Common.{length}
use Rattle.join_vote.proofs.replica.+put_copies.Given as goal

abbrev pub decreases-put_copies : goal.decreases-put_copies
decreases-put_copies l = length l.copies.now
