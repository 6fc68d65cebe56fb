use Rattle.std.proofs.Common.{◌≡◌, sym, ap, subst, ◌∙◌}
use Rattle.guards_model.specs.Missions.{MissionValue, IsMission, bus_rules}
use Rattle.guards_world.specs.Worlds.{WorldValue}
use Rattle.mission_run.specs.TopCall.{RunsBy, RunsTold}
use Rattle.mission_run.proofs.Serving.{of_ok, told_from, run_not_begun}
use Rattle.mission_run.proofs.top.run_mission.Goals as goal

pub returns-in_default : goal.returns-in_default
returns-in_default g c =
    let bus = g.B.Bus.seen c.args.bus.now in
    let loaded = g.B.Bus.seen c.load.new.self in
    let out = g.K.Sink.seen c.args.out.now in
    let script : (g.B.Bus.seen c.load.new.self).script ≡ bus_rules c.args.mission =
    of_ok c.load.result c.load.ensures.loaded (sym c.is_err.ensures.value ∙ c.if-is_err.false) ∙ c.rules.ensures
    ∙ ap (λ s. bus_rules (record c.args.mission { script = s })) c.script.ensures in
    run_not_begun g.B.Bus.may c.args.mission bus loaded c.load.ensures.log c.args.last c.args.trace out
    c.prove_mission.ensures script

pub run_world-requires-clause-mission : goal.run_world-requires-clause-mission
run_world-requires-clause-mission g c κs within =
    subst IsMission (sym (ap (λ (w : WorldValue). w.mission) c.in-Ok.ensures)) c.prove_mission.ensures

pub returns : goal.returns
returns g c =
    let bus = g.B.Bus.seen c.args.bus.now in
    let loaded = g.B.Bus.seen c.load.new.self in
    let after = g.B.Bus.seen c.run_world.new.bus in
    let out = g.K.Sink.seen c.args.out.now in
    let out' = g.K.Sink.seen c.run_world.new.out in
    let ran : RunsBy g.B.Bus.may c.args.last c.args.trace c.args.mission loaded after out out' c.run_world.result =
    subst (λ (m : MissionValue). RunsBy g.B.Bus.may c.args.last c.args.trace m loaded after out out' c.run_world.result)
    (ap (λ (w : WorldValue). w.mission) c.in-Ok.ensures) c.run_world.ensures in
    subst (λ s. RunsTold g.B.Bus.may c.args.last c.args.trace c.args.mission bus after out out' s)
    (sym c.status_of_run.ensures)
    (told_from g.B.Bus.may c.args.mission bus loaded c.load.ensures.log c.args.last c.args.trace after out out'
    c.run_world.result ran)
