use Rattle.std.proofs.Common.{take, ap, ◌∙◌}
use Rattle.guards_model.specs.Channels.{place_or}
use Rattle.told_cycles.proofs.ArrayLemmas.{front_at}
use Rattle.told_cycles.proofs.counts.counts_in_use.Goals as goal

pub returns : goal.returns
returns c =
    λ q low.
    front_at c.from-channels.result c.args.counts.now c.copy_from_slice.new.self c.copy_from_slice.ensures.after q
    ∙ ap (λ n. place_or (take n c.args.counts.now) q 0) c.from-channels.ensures
