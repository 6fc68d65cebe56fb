use Rattle.std.proofs.Common.{length}
use Rattle.oral_messages.proofs.words.+same_codes.Given as goal

abbrev pub decreases-same_codes : goal.decreases-same_codes
decreases-same_codes l = length l.v.now
