use Rattle.std.proofs.Common.{length, take, ap, ◌∙◌}
use Rattle.guards_model.specs.Missions.{ActuatorValue}
use Rattle.told_cycles.proofs.StandLemmas.{no_some, the_same}
use Rattle.told_cycles.proofs.work.first_words.Goals as goal

pub returns-in-Some : goal.returns-in-Some
returns-in-Some c =
    let n = length c.args.mission.now.outputs in
    let mine : ActuatorValue =
    record { steps = take n c.in-Some.actuator.steps; start = take n c.in-Some.actuator.start } in
    λ actuator some. ap (λ (a : ActuatorValue). a.start) (the_same mine actuator (c.in-Some.ensures.value ∙ some))

pub returns-in-None : goal.returns-in-None
returns-in-None c = λ actuator some. no_some actuator (c.in-None.ensures.value ∙ some)
