use Rattle.std.proofs.Common.{◌∙◌, arith}
use Rattle.dirty_tags.specs.Marks.{is_marked}
use Rattle.dirty_tags.proofs.marks.gather.Goals as goal
use Rattle.dirty_tags.proofs.marks.gather.Goals.{then-marks-block+then-len-most, else-marks-block, else-marks-block-via-then-marks-block+else-len-most, else-marks-block-via-else-marks-block}
use Rattle.dirty_tags.proofs.MarkSteps.{gathers, is_full, passes_over, gathers_none}

pub loop-block-init : goal.loop-block-init
loop-block-init c = gathers_none (is_marked c.args.marks.now) c.args.from c.args.most c.args.plan.now c.requires.held

pub loop-block-preserved : goal.loop-block-preserved
loop-block-preserved c =
    let p = is_marked c.args.marks.now in
    elim c.if-marks-block.branch [
      | then-marks-block+then-len-most w ↦
          w.plan-is ∙ w.push.ensures
          ∙ gathers p c.args.from c.loop-block.block c.args.most c.args.plan.now c.loop-block.plan (omega arith)
          w.if-marks-block.true c.loop-block.invariant (omega (arith, w.len.ensures.value))
      | else-marks-block w ↦
          w.plan-is
          ∙ elim w.else-marks-block.branch [
            | else-marks-block-via-then-marks-block+else-len-most v ↦
                is_full p c.args.from c.loop-block.block c.args.most c.args.plan.now c.loop-block.plan (omega arith)
                v.if-marks-block.true c.loop-block.invariant (omega (arith, v.len.ensures.value))
            | else-marks-block-via-else-marks-block v ↦
                passes_over p c.args.from c.loop-block.block c.args.most c.args.plan.now c.loop-block.plan (omega arith)
                v.if-marks-block.false c.loop-block.invariant
          ]
    ]
