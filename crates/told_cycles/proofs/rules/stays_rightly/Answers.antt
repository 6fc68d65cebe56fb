use Rattle.std.proofs.Common.{◌==◌, ◌&&◌, ◌||◌, not, length, ap, ◌∙◌}
use Rattle.std.specs.Prelude.{nat_le, slice_index}
use Rattle.told_cycles.proofs.rules.stays_rightly.Goals as goal

pub returns : goal.returns
returns c =
    let left = c.count-left.ensures.value ∙ ap length c.difference.ensures in
    c.either-3.ensures
    ∙ (λ i. not (c.is_in-is_passive.ensures i)
    || (c.either-2.ensures ∙ (λ j.
    (c.either.ensures ∙ (λ k. not (nat_le c.args.threshold (slice_index c.args.counts.now (c.from.ensures k)))
    || c.is_in.ensures k)) j
    || (c.both-last_three.ensures ∙ (λ k. left k == 3 && c.all_below.ensures k)) j)) i)
