use Rattle.std.proofs.Common.{◌∙◌, ◌||◌, ap}
use Rattle.context_blocks.specs.BlockSets.{flag_at}
use Rattle.table_flow.specs.Flow.{assignments, feeds}
use Rattle.table_flow.proofs.Whole.{feeds_alike}
use Rattle.table_flow.proofs.reach.fed_words.Goals as goal

pub returns : goal.returns
returns c = λ passes same w low.
    let list = assignments c.args.table.now.rows in
    c.add_table.ensures.words w low
    ∙ ap (λ f. f || feeds list (flag_at c.args.kept.now) w) (same w low)
    ∙ ap (λ f. passes w || f) (feeds_alike (flag_at c.args.kept.now) passes list w 2048 c.add_table.ensures.low same)
