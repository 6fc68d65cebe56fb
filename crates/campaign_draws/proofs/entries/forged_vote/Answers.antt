use Rattle.std.proofs.Common.{◌≡◌, ◌<◌, ◌^◌, ◌∙◌, arith, ap}
use Rattle.campaign_draws.specs.Drawing.{SizesValue}
use Rattle.campaign_draws.proofs.Drawn.{vote_in_range, words_length}
use Rattle.campaign_draws.proofs.entries.forged_vote.Goals as goal

pub of-requires-clause-least : goal.of-requires-clause-least
of-requires-clause-least c =
    let count = words_length c.in_ok-words.words.items c.sizes.inside.outputs c.args.numbers.now c.in_ok-words.ensures.words in
    omega (arith, count, c.sizes.invariant.5)

pub of-requires-clause-most : goal.of-requires-clause-most
of-requires-clause-most c =
    let count = words_length c.in_ok-words.words.items c.sizes.inside.outputs c.args.numbers.now c.in_ok-words.ensures.words in
    omega (arith, count, c.sizes.invariant.6)

pub encode-requires : goal.encode-requires
encode-requires c =
    let cycles = ap (λ (s : SizesValue). s.cycles) c.sizes.view_is in
    let channels = ap (λ (s : SizesValue). s.channels) c.sizes.view_is in
    let early : c.args.cycle < 2 ^ 32 = omega (arith, c.requires.cycle, cycles, c.sizes.invariant.2) in
    let below : c.args.channel < 7 = omega (arith, c.requires.channel, channels, c.sizes.invariant.1) in
    vote_in_range c.sizes.inside.version c.args.channel c.args.cycle c.of.result c.sizes.inside.outputs c.args.numbers.now
    c.sizes.invariant.7 c.sizes.invariant.8 below early c.sizes.invariant.5 c.sizes.invariant.6 (c.of.ensures ∙ c.as_slice.ensures.value ∙ c.in_ok-words.ensures.words)
