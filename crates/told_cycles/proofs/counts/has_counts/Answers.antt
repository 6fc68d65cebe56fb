use Rattle.std.proofs.Common.{take, ◌∙◌}
use Rattle.std.specs.Prelude.{bytes_eq}
use Rattle.told_cycles.proofs.counts.has_counts.Goals as goal

pub returns : goal.returns
returns c =
    c.are_same_counts.ensures
    ∙ (λ i. bytes_eq (take (c.from-channels.ensures i) (c.line.view_is i).counts)
    (take (c.from-channels.ensures i) c.args.counts.now))
