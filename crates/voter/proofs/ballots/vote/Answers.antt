use Rattle.std.proofs.Common.{◌≡◌, ◌<◌, ℕ, ℤ, None, Option, length, set, ap, ◌∙◌, arith}
use Rattle.std.specs.Prelude.{map}
use Rattle.std.specs.Ordering.{int_eq}
use Rattle.guards_model.specs.Contexts.{word_of}
use Rattle.guards_model.specs.Majority.{majority_of}
use Rattle.guards_model.specs.Voting.{Ballots, cast_of}
use Rattle.guards_model.specs.Channels.{ChannelSet}
use Rattle.voter.proofs.Gathering.{filled_to, filled_none, filled_more}
use Rattle.voter.proofs.ballots.vote.Goals as goal

abbrev at_place : ChannelSet → Ballots → ℕ → Option ℤ
at_place active ballots k = majority_of int_eq (length active) (map (λ words. word_of words k) (cast_of active ballots))

pub loop-place-init : goal.loop-place-init
loop-place-init c = filled_none (at_place c.args.active c.args.ballots.now) None 8

pub loop-place-preserved : goal.loop-place-preserved
loop-place-preserved c =
    let below : c.loop-place.place < 8 = omega (arith, c.requires, c.from-place-end.ensures, c.loop-place-test.true) in
    ap (λ voted. set voted c.loop-place.place c.vote_at.result) c.loop-place.invariant
    ∙ filled_more (at_place c.args.active c.args.ballots.now) None 8 c.loop-place.place c.vote_at.result below
    c.vote_at.ensures

pub returns : goal.returns
unfolding filled_to
returns c =
    let all : c.loop-place.place ≡ c.args.outputs =
    omega (arith, c.from-place-end.ensures, c.loop-place-test.false, c.loop-place.auto.place-end) in
    c.loop-place.invariant ∙ ap (filled_to (at_place c.args.active c.args.ballots.now) None 8) all
