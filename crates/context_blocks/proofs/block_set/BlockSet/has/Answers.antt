use Rattle.std.proofs.Common.{◌∙◌, sym, ap}
use Rattle.guards_model.specs.Channels.{has}
use Rattle.context_blocks.specs.BlockSets.{flag_at}
use Rattle.context_blocks.proofs.FlagSets.{where_has}
use Rattle.context_blocks.proofs.block_set.BlockSet.has.Goals as goal

pub returns : goal.returns
returns c = sym (ap (λ set. has set c.args.block) (sym c.self.view_is)
    ∙ where_has 256 (flag_at c.self.inside.flags) c.args.block c.ranges.block.fits)
