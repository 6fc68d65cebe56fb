use mir.Syntax.{w64}
use mir.Val.{SFits}
use Rattle.std.proofs.lemmas.Int.{to_z-of_z}
use Rattle.std.proofs.Common.{◌≡◌, ◌<◌, ◌-◌, ◌++◌, ℕ, ℤ, pos, List, Option, None, length, get_or, replicate, set, ap, sym, refl, subst, ◌∙◌, arith, rules}
use Rattle.std.specs.Prelude.{◌≤ℤ◌, slice_index_or}
use Rattle.guards_model.specs.Channels.{place_or}
use Rattle.guards_model.specs.Contexts.{word_of}
use Rattle.voter.proofs.Gathering.{filled_to, filled_none, filled_more, place_is}
use Rattle.guards_model.specs.Actuators.{moved}
use Rattle.output_gate.proofs.gate.moved_words.Goals as goal

abbrev at_place : List ℤ → List ℤ → List (Option ℤ) → ℕ → ℤ
at_place steps last wanted k = moved (word_of steps k) (word_of last k) (place_or wanted k None)

pub loop-place-init : goal.loop-place-init
loop-place-init g c = filled_none (at_place c.args.steps.now c.args.last.now c.args.wanted.now) (pos 0) 8

pub loop-place-preserved : goal.loop-place-preserved
loop-place-preserved g c =
    let steps = c.args.steps.now in
    let last = c.args.last.now in
    let wanted = c.args.wanted.now in
    let k = c.loop-place.place in
    let below : k < 8 = omega (arith, c.requires.few, c.from-place-end.ensures, c.loop-place-test.true) in
    let word : ℤ = c.moved.result in
    let fits : SFits w64 word = search rules in
    let size : length wanted ≡ 8 = c.told-wanted in
    let there : place_or wanted k None ≡ get_or wanted k None =
    place_is wanted k None (get_or wanted k None) refl (omega (arith, size, below)) in
    let step_fits : SFits w64 c.word_at.result = search rules in
    let last_fits : SFits w64 c.word_at-in-loop-place.result = search rules in
    let called : word ≡ moved c.word_at.result c.word_at-in-loop-place.result (get_or wanted k None) =
    rw (to_z-of_z w64 c.word_at.result step_fits, to_z-of_z w64 c.word_at-in-loop-place.result last_fits) at
    c.moved.ensures in
    let one : word ≡ at_place steps last wanted k =
    called
    ∙ ap (λ s. moved s c.word_at-in-loop-place.result (get_or wanted k None)) c.word_at.ensures
    ∙ ap (λ l. moved (word_of steps k) l (get_or wanted k None)) c.word_at-in-loop-place.ensures
    ∙ ap (moved (word_of steps k) (word_of last k)) (sym there) in
    rw (to_z-of_z w64 word fits)
    (ap (λ words. set words k word) c.loop-place.invariant
    ∙ filled_more (at_place steps last wanted) (pos 0) 8 k word below one)

pub returns : goal.returns
unfolding filled_to
returns g c =
    let all : c.loop-place.place ≡ c.args.outputs =
    omega (arith, c.from-place-end.ensures, c.loop-place-test.false, c.loop-place.auto.place-end) in
    c.loop-place.invariant ∙ ap (filled_to (at_place c.args.steps.now c.args.last.now c.args.wanted.now) (pos 0) 8) all
