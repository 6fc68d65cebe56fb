use Rattle.std.proofs.Common.{◌≡◌, ◌∙◌, ap, flat_map, arith}
use Rattle.std.specs.List.{range_with_len}
use Rattle.picture_svg.specs.Picture.{disturbed_text}
use Rattle.picture_svg.proofs.PlotSteps.{text_step}
use Rattle.picture_svg.proofs.picture.all_disturbed.Goals as goal

pub loop-number-preserved : goal.loop-number-preserved
loop-number-preserved c =
    text_step (disturbed_text c.args.x c.args.set) c.loop-number.number _ _ _ _ _ c.in-Some.ensures
    c.loop-number.invariant
    c.in_ok-push_str.ensures.bytes c.deref.ensures c.in_ok-disturbed_text.ensures

pub returns : goal.returns
returns c =
    let all : c.loop-number.number ≡ c.args.channels = omega arith in
    c.loop-number.invariant ∙ ap (λ n. flat_map (disturbed_text c.args.x c.args.set) (range_with_len 0 n)) all
