use Rattle.std.proofs.Common.{ap, ◌∙◌, arith}
use Rattle.told_cycles.specs.Sweeping.{is_flagged}
use Rattle.dirty_tags.proofs.MarkSteps.{gathers, is_full, passes_over, gathers_none}
use Rattle.told_cycles.proofs.sweeps.gather.Goals as goal
use Rattle.told_cycles.proofs.sweeps.gather.Goals.{then-flags-block+then-len-most, else-flags-block, else-flags-block-via-then-flags-block+else-len-most, else-flags-block-via-else-flags-block}

pub loop-block-init : goal.loop-block-init
loop-block-init c = gathers_none (is_flagged c.args.flags.now) c.args.from c.args.most c.args.plan.now.items
    c.requires.held

pub loop-block-preserved : goal.loop-block-preserved
loop-block-preserved c =
    let p = is_flagged c.args.flags.now in
    elim c.if-flags-block.branch [
      | then-flags-block+then-len-most w ↦
          ap (λ plan. plan.items) w.plan-is ∙ w.push.ensures.items
          ∙ gathers p c.args.from c.loop-block.block c.args.most c.args.plan.now.items c.loop-block.plan.items
          (omega arith) w.if-flags-block.true c.loop-block.invariant (omega (arith, w.len.ensures))
      | else-flags-block w ↦
          ap (λ plan. plan.items) w.plan-is
          ∙ elim w.else-flags-block.branch [
            | else-flags-block-via-then-flags-block+else-len-most v ↦
                is_full p c.args.from c.loop-block.block c.args.most c.args.plan.now.items c.loop-block.plan.items
                (omega arith) v.if-flags-block.true c.loop-block.invariant (omega (arith, v.len.ensures))
            | else-flags-block-via-else-flags-block v ↦
                passes_over p c.args.from c.loop-block.block c.args.most c.args.plan.now.items c.loop-block.plan.items
                (omega arith) v.if-flags-block.false c.loop-block.invariant
          ]
    ]
