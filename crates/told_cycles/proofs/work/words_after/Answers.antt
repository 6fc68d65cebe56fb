use Rattle.std.proofs.Common.{◌≡◌, length, ◌∙◌, arith}
use Rattle.told_cycles.proofs.MovedLemmas.{moved_by, wanted_long}
use Rattle.told_cycles.proofs.StandLemmas.{no_some}
use Rattle.told_cycles.proofs.work.words_after.Goals as goal

pub moved-requires : goal.moved-requires
moved-requires g c =
    let M = c.args.mission.now in
    let long : length c.in_use.result.now ≡ length M.outputs =
    wanted_long M c.args.context.now c.in_use.result.now (c.in_use.ensures ∙ c.output_words-wanted.ensures) in
    omega (arith, c.prove_sizes.ensures.few)

pub returns-in-Some : goal.returns-in-Some
returns-in-Some g c =
    moved_by c.args.mission.now c.args.context.now c.in-Some.actuator.steps c.in-Some.actuator.start c.args.last.now
    c.in_use.result.now c.moved.result
    (c.in_use.ensures ∙ c.output_words-wanted.ensures) c.in-Some.ensures.value c.moved.ensures

pub returns-in-None : goal.returns-in-None
returns-in-None g c = λ actuator some. no_some actuator (c.in-None.ensures.value ∙ some)
