use Rattle.std.proofs.Common.{length}
use Rattle.mission_text.proofs.blocks.+set_blocks.Given as goal

abbrev pub decreases-set_blocks : goal.decreases-set_blocks
decreases-set_blocks l = length l.named.now
