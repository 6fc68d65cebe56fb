use Rattle.std.proofs.Common.{◌≡◌, ◌+◌, ◌-◌, ◌*◌, ◌/◌, ◌∙◌, refl, ap, flat_map, arith}
use Rattle.std.specs.List.{range_with_len}
use Rattle.picture_svg.specs.Picture.{tick_step, tick_text, ticks_text}
use Rattle.picture_svg.proofs.PlotSteps.{text_step}
use Rattle.picture_svg.proofs.picture.ticks_text.Goals as goal

pub loop-number-preserved : goal.loop-number-preserved
loop-number-preserved c =
    text_step (λ k. tick_text c.args.width c.args.axis (k * tick_step c.args.cycles)) c.loop-number.number
    c.loop-number.number
    _ _ _ _ refl c.loop-number.invariant c.in_ok-push_str.ensures.bytes c.deref.ensures
    (c.in_ok-tick_text.ensures
    ∙ ap (λ every. tick_text c.args.width c.args.axis (c.loop-number.number * every))
    (c.from-every.ensures ∙ c.tick_step.ensures.value))

pub returns : goal.returns
unfolding ticks_text
returns c =
    let at : c.loop-number.number ≡ c.from.result / c.from-every.result + 1 = omega arith in
    let less : c.from.result ≡ c.args.cycles - 1 = c.from.ensures ∙ c.saturating_sub.ensures in
    let every : c.from-every.result ≡ tick_step c.args.cycles = c.from-every.ensures ∙ c.tick_step.ensures.value in
    c.loop-number.invariant
    ∙ ap (λ n. flat_map (λ k. tick_text c.args.width c.args.axis (k * tick_step c.args.cycles)) (range_with_len 0 n))
    (at ∙ (λ i. less i / every i + 1))
