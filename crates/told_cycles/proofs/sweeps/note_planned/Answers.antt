use Rattle.std.proofs.Common.{◌<◌, ◌∙◌, Some, None, length, get_or, arith}
use Rattle.std.proofs.lemmas.List.{length-set}
use Rattle.told_cycles.proofs.SweepSteps.{noted_more}
use Rattle.told_cycles.proofs.sweeps.note_planned.Goals as goal

pub loop-block-preserved : goal.loop-block-preserved
loop-block-preserved c =
    let k = c.loop-block.block-index in
    let low : c.from.result < length c.loop-block.table =
    omega (arith, c.loop-block.invariant.whole, c.from.ensures, c.type_inv.plan k) in
    record {
      whole = length-set c.loop-block.table c.from.result (Some c.args.cycle) ∙ c.loop-block.invariant.whole;
      noted = λ b under.
          noted_more c.loop-block.table c.args.plan.now k c.from.result b c.args.cycle (get_or c.args.table.now b None)
          (omega (arith, c.loop-block-test.true)) c.from.ensures low (c.loop-block.invariant.noted b under);
    }
