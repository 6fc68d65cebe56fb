use mir.Syntax.{w64}
use mir.Val.{SFits}
use Rattle.std.proofs.lemmas.Int.{to_z-of_z}
use Rattle.std.proofs.Common.{◌≡◌, ℤ, length, ap, ◌∙◌, arith, rules}
use Rattle.std.proofs.lemmas.List.{length-set}
use Rattle.mission_type.proofs.MissionSizes.{sized}
use Rattle.mission_type.proofs.OutputWords.{words_more}
use Rattle.mission_type.proofs.mission.Mission.output_words.Goals as goal

pub loop-place-preserved : goal.loop-place-preserved
loop-place-preserved c =
    let word : ℤ = c.word_at.result in
    let fits : SFits w64 word = search rules in
    let outputs = c.as_slice-outputs.result.now in
    let good = sized _ c.self.invariant.mission in
    let few = good.few in
    let eight = c.loop-place.invariant.eight in
    let long : length outputs ≡ length c.self.inside.outputs.items = ap length c.as_slice-outputs.ensures in
    rw (to_z-of_z w64 word fits)
    (record {
      done = words_more _ outputs c.loop-place.words c.loop-place.place (0, 0) word c.loop-place-test.true
          (omega (arith, long, few, eight, c.loop-place-test.true)) c.word_at.ensures c.loop-place.invariant.done;
      eight = length-set c.loop-place.words c.loop-place.place word ∙ eight;
    })
