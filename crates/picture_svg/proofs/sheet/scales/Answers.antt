use Rattle.std.proofs.Common.{◌∷◌, [], sym, ◌++◌, ap, ◌∙◌}
use Rattle.picture_svg.specs.Sheet.{scale_of}
use Rattle.picture_marks.proofs.MarkLists.{map_range}
use Rattle.picture_svg.proofs.sheet.scales.Goals as goal

pub loop-output-preserved : goal.loop-output-preserved
loop-output-preserved c =
    c.in_ok-push.ensures.items ∙ (λ i. c.loop-output.invariant i ++ c.scale_of.ensures i ∷ [])
    ∙ sym (map_range (scale_of c.args.marks.now) c.loop-output.output)
