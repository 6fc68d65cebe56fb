use Rattle.std.proofs.Common.{length}
use Rattle.join_vote.proofs.finals.+are_one_list.Given as goal

abbrev pub decreases-are_one_list : goal.decreases-are_one_list
decreases-are_one_list l = length l.a.now
