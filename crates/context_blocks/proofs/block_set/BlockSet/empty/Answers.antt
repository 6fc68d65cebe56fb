use Rattle.std.proofs.Common.{false}
use Rattle.std.specs.Prelude.{replicate}
use Rattle.context_blocks.specs.BlockSets.{flag_at}
use Rattle.context_blocks.proofs.FlagSets.{where_none, no_flag}
use Rattle.context_blocks.proofs.block_set.BlockSet.empty.Goals as goal

pub returns : goal.returns
returns c = where_none 256 (flag_at (replicate 256 false)) (no_flag 256)
