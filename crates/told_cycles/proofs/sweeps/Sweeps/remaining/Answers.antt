use Rattle.std.proofs.Common.{length, ap, ◌∙◌}
use Rattle.guards_model.specs.Transfers.{remaining_blocks}
use Rattle.told_cycles.proofs.SweepSteps.{at_size, remaining_are}
use Rattle.told_cycles.proofs.sweeps.Sweeps.remaining.Goals as goal

pub returns : goal.returns
returns c =
    λ blocks next cycles h.
    c.count.ensures ∙ ap length
    (remaining_are c.args.self.now c.flags.result next cycles (at_size c.args.self.now blocks next cycles h)
    c.flags.ensures)
    ∙ ap (λ b. length (remaining_blocks b cycles)) h.size
