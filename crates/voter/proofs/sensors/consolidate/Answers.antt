use mir.Syntax.{w64}
use mir.Val.{SFits}
use Rattle.std.proofs.lemmas.Int.{to_z-of_z}
use Rattle.std.proofs.Common.{◌≡◌, ◌<◌, ◌-◌, ◌++◌, ℕ, ℤ, pos, List, Option, replicate, set, ap, ◌∙◌, arith, rules}
use Rattle.std.specs.Prelude.{map}
use Rattle.guards_model.specs.Channels.{ChannelSet}
use Rattle.guards_model.specs.Contexts.{word_of}
use Rattle.guards_model.specs.Frames.{SourceValue}
use Rattle.guards_model.specs.Voting.{lower_median, present}
use Rattle.voter.specs.Sensors.{words_in}
use Rattle.voter.proofs.Gathering.{filled_to, filled_none, filled_more}
use Rattle.voter.proofs.Settled.{inputs_whole, least_bound, greatest_bound}
use Rattle.voter.proofs.sensors.consolidate.Goals as goal

abbrev at_place : ChannelSet → List (Option SourceValue) → ℕ → ℤ
at_place active words k = lower_median (map (λ w. word_of w.words k) (present (words_in active words)))

pub loop-place-init : goal.loop-place-init
loop-place-init c = filled_none (at_place c.args.active c.args.words.now) (pos 0) 4

pub loop-place-preserved : goal.loop-place-preserved
loop-place-preserved c =
    let below : c.loop-place.place < 4 = omega (arith, c.requires, c.from-place-end.ensures, c.loop-place-test.true) in
    let word : ℤ = c.input_at.result in
    let fits : SFits w64 word = search rules in
    rw (to_z-of_z w64 word fits)
    (ap (λ inputs. set inputs c.loop-place.place word) c.loop-place.invariant
    ∙ filled_more (at_place c.args.active c.args.words.now) (pos 0) 4 c.loop-place.place word below c.input_at.ensures)

whole : goal.returns-clause-median
unfolding filled_to
whole c =
    let all : c.loop-place.place ≡ c.args.width =
    omega (arith, c.from-place-end.ensures, c.loop-place-test.false, c.loop-place.auto.place-end) in
    c.loop-place.invariant ∙ ap (filled_to (at_place c.args.active c.args.words.now) (pos 0) 4) all

pub returns-clause-median : goal.returns-clause-median
returns-clause-median c = whole c

pub returns-clause-inputs : goal.returns-clause-inputs
returns-clause-inputs c =
    λ none. whole c ∙ ap (λ xs. xs ++ replicate (4 - c.args.width) (pos 0))
    (inputs_whole c.args.active c.prove_members.ensures c.args.words.now c.args.width c.type_inv.words none)

pub returns-clause-least : goal.returns-clause-least
returns-clause-least c =
    λ disturbed others k h. least_bound c.args.active c.prove_members.ensures c.args.words.now disturbed c.args.width
    (4 - c.args.width) k c.loop-place.inputs (whole c) others h

pub returns-clause-greatest : goal.returns-clause-greatest
returns-clause-greatest c =
    λ disturbed others k h. greatest_bound c.args.active c.prove_members.ensures c.args.words.now disturbed c.args.width
    (4 - c.args.width) k c.loop-place.inputs (whole c) others h
