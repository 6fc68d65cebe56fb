use Rattle.std.proofs.Common.{◌≡◌, sym, ap, subst, ◌∙◌}
use Rattle.guards_model.specs.Missions.{MissionValue, IsMission, bus_rules}
use Rattle.guards_world.specs.Worlds.{WorldValue}
use Rattle.demo_mission.specs.Demo.{demo_mission}
use Rattle.world_run.specs.Tallying.{Summarizes}
use Rattle.mission_run.specs.TopCall.{RunsDemo}
use Rattle.mission_run.proofs.Serving.{of_ok, demo_from, demo_not_begun}
use Rattle.mission_run.proofs.top.run_demo.Goals as goal

pub returns-in_default-start : goal.returns-in_default-start
returns-in_default-start g c =
    let bus = g.B.Bus.seen c.args.bus.now in
    let loaded = g.B.Bus.seen c.load.new.self in
    let out = g.K.Sink.seen c.args.out.now in
    let script : (g.B.Bus.seen c.load.new.self).script ≡ bus_rules c.in-Ok.mission =
    of_ok c.load.result c.load.ensures.loaded (sym c.is_err.ensures.value ∙ c.if-is_err.false) ∙ c.rules.ensures
    ∙ ap (λ s. bus_rules (record c.in-Ok.mission { script = s })) c.script.ensures in
    demo_not_begun g.B.Bus.may c.args.number bus loaded c.load.ensures.log out
    (subst IsMission c.in-Ok.ensures c.prove_mission.ensures) (script ∙ ap bus_rules c.in-Ok.ensures)

pub summarize-requires-clause-mission : goal.summarize-requires-clause-mission
summarize-requires-clause-mission g c κs within =
    subst IsMission (sym (ap (λ (w : WorldValue). w.mission) c.in-Ok-start.ensures)) c.prove_mission.ensures

pub returns : goal.returns
returns g c =
    let bus = g.B.Bus.seen c.args.bus.now in
    let loaded = g.B.Bus.seen c.load.new.self in
    let after = g.B.Bus.seen c.summarize.new.bus in
    let out = g.K.Sink.seen c.args.out.now in
    let out' = g.K.Sink.seen c.summarize.new.out in
    let ran : Summarizes g.B.Bus.may c.args.number (demo_mission c.args.number) loaded after out out'
    c.summarize.result =
    subst (λ (m : MissionValue). Summarizes g.B.Bus.may c.args.number m loaded after out out' c.summarize.result)
    (ap (λ (w : WorldValue). w.mission) c.in-Ok-start.ensures ∙ c.in-Ok.ensures) c.summarize.ensures in
    subst (λ s. RunsDemo g.B.Bus.may c.args.number bus after out out' s) (sym c.status_of_run.ensures)
    (demo_from g.B.Bus.may c.args.number bus loaded c.load.ensures.log after out out' c.summarize.result ran)
