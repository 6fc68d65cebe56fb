use Rattle.std.proofs.Common.{◌^◌, refl}
use Rattle.std.specs.Prelude.{pos}
use Rattle.demo_mission.proofs.Drawn.{draw_more, draws_end, number_more, number_ends}
use Rattle.campaign_draws.proofs.entries.drawn_words.Goals as goal

pub loop-output-preserved : goal.loop-output-preserved
loop-output-preserved c =
    let n = c.args.outputs in
    let i = c.loop-output._output in
    let x = c.loop-output.numbers in
    rw (c.in_ok-push_word.ensures.pushed, c.in_ok-push_word.ensures.number) (
      draw_more (λ word. pos word) (2 ^ 31) n i x c.loop-output.words.items _ _ c.loop-output-test.true refl c.loop-output.invariant.0,
      number_more n i x _ c.loop-output-test.true c.loop-output.invariant.1,
    )

pub returns-clause-words : goal.returns-clause-words
returns-clause-words c = draws_end (λ word. pos word) (2 ^ 31) c.args.outputs c.loop-output._output c.loop-output.numbers c.loop-output.words.items _ c.loop-output-test.false c.loop-output.invariant.0

pub returns-clause-number : goal.returns-clause-number
returns-clause-number c = number_ends c.args.outputs c.loop-output._output c.loop-output.numbers _ c.loop-output-test.false c.loop-output.invariant.1
