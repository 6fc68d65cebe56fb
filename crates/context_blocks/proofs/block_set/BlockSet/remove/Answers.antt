use Rattle.std.proofs.Common.{◌∙◌, sym, ap, ◌<◌, false, not, ◌&&◌, [], ◌∷◌, length, set, arith}
use Rattle.guards_model.specs.Channels.{has, without}
use Rattle.context_blocks.specs.BlockSets.{flag_at}
use Rattle.context_blocks.proofs.FlagSets.{where_alike, where_without, flag_cleared}
use Rattle.context_blocks.proofs.block_set.BlockSet.remove.Goals as goal

pub returns : goal.returns
returns c =
    let flags = c.self.inside.flags in
    let there : c.args.block < length flags = omega (arith, c.self.told, c.ranges.block.fits) in
    where_alike 256 (flag_at (set flags c.args.block false)) (λ b. not (has (c.args.block ∷ []) b) && flag_at flags b)
    (λ b _. flag_cleared flags c.args.block b there)
    ∙ sym (where_without 256 (flag_at flags) (c.args.block ∷ []))
    ∙ ap (λ set. without set (c.args.block ∷ [])) c.self.view_is
