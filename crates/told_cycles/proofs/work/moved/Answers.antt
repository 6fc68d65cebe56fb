use mir.Syntax.{w64}
use mir.Val.{SFits}
use Rattle.std.proofs.lemmas.Int.{to_z-of_z}
use Rattle.std.proofs.lemmas.List.{length-set}
use Rattle.std.proofs.Common.{ℕ, ℤ, ◌<◌, length, ◌∙◌, arith, rules}
use Rattle.guards_model.specs.Actuators.{limited}
use Rattle.guards_model.specs.Contexts.{word_of}
use Rattle.told_cycles.proofs.MovedLemmas.{moved_are, word_more}
use Rattle.told_cycles.proofs.work.moved.Goals as goal

pub loop-place-preserved : goal.loop-place-preserved
loop-place-preserved g c =
    let v = c.loop-place.invariant in
    let k = c.loop-place.place in
    let word : ℤ = c.moved_at.result in
    let fits : SFits w64 word = search rules in
    let there : k < length c.loop-place.next = omega (arith, v.whole, c.requires, c.loop-place-test.true) in
    rw (to_z-of_z w64 word fits)
    (record {
      whole = length-set c.loop-place.next k word ∙ v.whole;
      long = v.long;
      moved = word_more (λ (j : ℕ).
          limited (word_of c.args.last.now j) (word_of c.args.wanted.now j) (word_of c.args.steps.now j))
          c.loop-place.next k word there v.moved c.moved_at.ensures;
    })

pub returns : goal.returns
returns g c =
    let v = c.loop-place.invariant in
    moved_are c.args.steps.now c.args.last.now c.args.wanted.now c.loop-place.next c.requires v.long v.whole
    (λ k low. v.moved k (omega (arith, c.loop-place-test.false)))
