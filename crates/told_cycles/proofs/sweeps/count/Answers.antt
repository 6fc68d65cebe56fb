use Rattle.std.proofs.Common.{ap, sym, ◌+◌, ◌∙◌, arith, true, false}
use Rattle.told_cycles.proofs.SweepSteps.{count_more}
use Rattle.told_cycles.proofs.sweeps.count.Goals as goal
use Rattle.told_cycles.proofs.sweeps.count.Goals.{then-flags-block, else-flags-block}

pub loop-block-preserved : goal.loop-block-preserved
loop-block-preserved c =
    elim c.if-flags-block.branch [
      | then-flags-block w ↦
          let more = count_more c.args.flags.now c.loop-block.block true w.if-flags-block.true in
          record {
            some = omega (arith, w.count-is, more, c.loop-block.invariant.some);
            most = omega (arith, w.count-is, c.loop-block.invariant.most);
          }
      | else-flags-block w ↦
          let more = count_more c.args.flags.now c.loop-block.block false w.if-flags-block.false in
          record {
            some = omega (arith, w.count-is, more, c.loop-block.invariant.some);
            most = omega (arith, w.count-is, c.loop-block.invariant.most);
          }
    ]
