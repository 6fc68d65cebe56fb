use Rattle.std.proofs.Common.{◌≡◌, ℤ, ℕ, List, take, refl, sym, ap, subst, ◌∙◌}
use Rattle.guards_base.specs.Padding.{IsPadded}
use Rattle.guards_model.specs.Channels.{by_channel}
use Rattle.guards_model.specs.Frames.{SourceValue}
use Rattle.guards_model.specs.Missions.{MissionValue, sensor}
use Rattle.ideal_run.proofs.Sensing.{sensor_length, take_padded, is_padded}
use Rattle.ideal_run.proofs.machine.source_word.Goals as goal

pub invariant_of-result : goal.invariant_of-result
invariant_of-result c =
    let M = c.args.mission.now in
    let long = sensor_length M c.args.chan c.args.cycle c.prove_mission.ensures c.requires in
    let wide = ap (λ (m : MissionValue). m.width) c.mission.view_is in (
      subst (λ n. IsPadded 4 n c.sensor.result) (sym wide)
          (subst (λ ws. IsPadded 4 M.width ws) (sym c.sensor.ensures)
          (is_padded (sensor M c.args.chan c.args.cycle) M.width long c.prove_sizes.ensures.wide
          c.prove_sizes.ensures.narrow)),
      refl,
    )

pub returns : goal.returns
unfolding by_channel
returns c =
    let M = c.args.mission.now in
    let long = sensor_length M c.args.chan c.args.cycle c.prove_mission.ensures c.requires in
    let wide = ap (λ (m : MissionValue). m.width) c.mission.view_is in
    let used : take c.mission.inside.width c.sensor.result ≡ sensor M c.args.chan c.args.cycle =
    ap (λ n. take n c.sensor.result) wide ∙ ap (take M.width) c.sensor.ensures
    ∙ take_padded (sensor M c.args.chan c.args.cycle) M.width long _ in
    let codes : List ℕ = by_channel (λ q. 0) in
    let word : List ℤ → List ℕ → SourceValue = λ ws accused. record { words = ws; accuse = accused; heard = codes } in
    ap (λ ws. word ws c.empty.result) used ∙ ap (word (sensor M c.args.chan c.args.cycle)) c.empty.ensures
