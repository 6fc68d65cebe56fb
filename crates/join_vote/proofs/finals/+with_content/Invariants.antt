use Rattle.std.proofs.Common.{length}
use Rattle.join_vote.proofs.finals.+with_content.Given as goal

abbrev pub decreases-with_content : goal.decreases-with_content
decreases-with_content l = length l.frames.now
