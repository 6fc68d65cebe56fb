use Rattle.std.proofs.Common.{◌∙◌, sym, ap, ◌<◌, ◌==◌, true, ◌||◌, length, set, arith}
use Rattle.guards_model.specs.Channels.{has}
use Rattle.context_blocks.specs.BlockSets.{numbers_where, flag_at}
use Rattle.context_blocks.proofs.FlagSets.{where_has, where_alike, flag_set}
use Rattle.context_blocks.proofs.block_set.BlockSet.insert.Goals as goal

pub returns : goal.returns
returns c =
    let flags = c.self.inside.flags in
    let there : c.args.block < length flags = omega (arith, c.self.told, c.ranges.block.fits) in
    where_alike 256 (flag_at (set flags c.args.block true))
    (λ b. b == c.args.block || has (numbers_where 256 (flag_at flags)) b)
    (λ b low. flag_set flags c.args.block b there
    ∙ ap (λ before. (b == c.args.block) || before) (sym (where_has 256 (flag_at flags) b low)))
    ∙ ap (λ set. numbers_where 256 (λ b. b == c.args.block || has set b)) c.self.view_is
