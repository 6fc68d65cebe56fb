use Rattle.std.proofs.Common.{◌≡◌, ◌+◌, ◌∙◌, ap, refl}
use Rattle.demo_mission.specs.Demo.{number_after, sensor_words}
use Rattle.demo_mission.proofs.Drawn.{draw_more, draws_end, number_more, number_ends, seven_words}
use Rattle.demo_mission.proofs.sensors.sensor_words.Goals as goal

pub loop-channel-preserved : goal.loop-channel-preserved
loop-channel-preserved c =
    let base = c.below-base.result in
    let x = c.loop-channel.draws.number in
    rw (c.in_ok-push.ensures.items, c.below.ensures.number) (
      draw_more (λ more. base + more) 5 7 c.loop-channel._channel x c.loop-channel.words.items _ _
          c.loop-channel-test.true (ap (λ more. base + more) c.below.ensures.drawn) c.loop-channel.invariant.0,
      number_more 7 c.loop-channel._channel x _ c.loop-channel-test.true c.loop-channel.invariant.1,
    )

pub returns-clause-words : goal.returns-clause-words
unfolding sensor_words
returns-clause-words c =
    draws_end (λ more. c.below-base.result + more) 5 7 c.loop-channel._channel c.loop-channel.draws.number
    c.loop-channel.words.items _ c.loop-channel-test.false c.loop-channel.invariant.0
    ∙ rw (c.below-base.ensures.drawn, c.below-base.ensures.number) refl

pub returns-clause-count : goal.returns-clause-count
returns-clause-count c =
    let words : c.loop-channel.words.items ≡ sensor_words c.args.draws.now.number = returns-clause-words c in
    rw words (seven_words c.args.draws.now.number)

pub returns-clause-number : goal.returns-clause-number
unfolding number_after
returns-clause-number c =
    number_ends 7 c.loop-channel._channel c.loop-channel.draws.number _ c.loop-channel-test.false
    c.loop-channel.invariant.1 ∙ rw c.below-base.ensures.number refl
