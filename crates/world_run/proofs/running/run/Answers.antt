use Rattle.std.proofs.Common.{ap, sym, subst, ◌∙◌}
use Rattle.std.specs.Prelude.{option_map}
use Rattle.std.proofs.lemmas.Result.{err_from_is_err_and}
use Rattle.guards_world.specs.Worlds.{WorldValue, first_world}
use Rattle.guards_runs.specs.IdealReport.{head, last}
use Rattle.guards_model.specs.Missions.{MissionValue}
use Rattle.run_laws.specs.Driving.{first_gate}
use Rattle.run_laws.proofs.Driving.{mission_begins}
use Rattle.guards_io.specs.Writes.{Puts}
use Rattle.world_run.specs.Running.{GoesTo, IsAt, Runs}
use Rattle.world_run.proofs.RunSteps.{at_mission, head_done, end_done}
use Rattle.world_run.proofs.running.run.Goals as goal

pub returns-in_err-run_result : goal.returns-in_err-run_result
returns-in_err-run_result g c =
    let p = err_from_is_err_and c.from_residual.result c.from_residual.ensures.1 in
    let M = c.args.world.now.mission in
    let bus = g.B.Bus.seen c.args.bus.now in
    let out = g.K.Sink.seen c.args.out.now in
    let out' = g.K.Sink.seen c.put_head.new.out in
    let wrote : Puts out out' (head M) c.put_head.result =
    subst (λ m. Puts out out' (head m) c.put_head.result) c.mission-2.ensures c.put_head.ensures in
    let o = M.actuator in
    let first = mission_begins g.B.Bus.may M bus c.requires.mission c.requires.loaded in
    let done = head_done g.B.Bus.may c.args.trace M o bus out out' (option_map first_gate o) first c.put_head.result
    wrote in
    rw (p.1, p.2) (subst (λ r.
    GoesTo g.B.Bus.may c.args.trace M o bus out 0 (first_world M) bus (option_map first_gate o) out' r)
    (sym c.in_err-run_result.ensures) done)

pub run_cycles-requires-clause-at : goal.run_cycles-requires-clause-at
run_cycles-requires-clause-at g c κs within =
    let M = c.args.world.now.mission in
    let bus = g.B.Bus.seen c.args.bus.now in
    let out = g.K.Sink.seen c.args.out.now in
    let out' = g.K.Sink.seen c.put_head.new.out in
    let wrote : Puts out out' (head M) c.put_head.result =
    subst (λ m. Puts out out' (head m) c.put_head.result) c.mission-2.ensures c.put_head.ensures in
    let o = M.actuator in
    let first = mission_begins g.B.Bus.may M bus c.requires.mission c.requires.loaded in
    let done = head_done g.B.Bus.may c.args.trace M o bus out out' (option_map first_gate o) first c.put_head.result
    wrote in
    let begun = subst (λ r. GoesTo g.B.Bus.may c.args.trace M o bus out 0 (first_world M) bus (option_map first_gate o)
    out' r) (sym c.in_ok-run_result.ensures) done in (
      o,
      M,
      bus,
      out,
      subst (λ x. IsAt g.B.Bus.may c.args.trace M o bus out c.args.world.now bus x out')
          (sym (c.first_gate-actuator.ensures
          ∙ ap (λ (m : MissionValue). option_map first_gate m.actuator) c.mission.ensures))
          (subst (λ (w : WorldValue). IsAt g.B.Bus.may c.args.trace M o bus out w bus (option_map first_gate o) out')
          (sym c.requires.fresh) begun.0),
    )

pub returns-in_err-run_cycles : goal.returns-in_err-run_cycles
returns-in_err-run_cycles g c =
    let p = err_from_is_err_and c.from_residual-in_err-run_cycles.result c.from_residual-in_err-run_cycles.ensures.1 in
    let M = c.args.world.now.mission in
    let bus = g.B.Bus.seen c.args.bus.now in
    let out = g.K.Sink.seen c.args.out.now in
    let out' = g.K.Sink.seen c.put_head.new.out in
    let wrote : Puts out out' (head M) c.put_head.result =
    subst (λ m. Puts out out' (head m) c.put_head.result) c.mission-2.ensures c.put_head.ensures in
    let o = M.actuator in
    let first = mission_begins g.B.Bus.may M bus c.requires.mission c.requires.loaded in
    let done = head_done g.B.Bus.may c.args.trace M o bus out out' (option_map first_gate o) first c.put_head.result
    wrote in
    let begun = subst (λ r. GoesTo g.B.Bus.may c.args.trace M o bus out 0 (first_world M) bus (option_map first_gate o)
    out' r) (sym c.in_ok-run_result.ensures) done in
    let at = subst (λ x. IsAt g.B.Bus.may c.args.trace M o bus out c.args.world.now bus x out')
    (sym (c.first_gate-actuator.ensures
    ∙ ap (λ (m : MissionValue). option_map first_gate m.actuator) c.mission.ensures))
    (subst (λ (w : WorldValue). IsAt g.B.Bus.may c.args.trace M o bus out w bus (option_map first_gate o) out')
    (sym c.requires.fresh) begun.0) in
    rw (p.1, p.2) (c.in_err-run_cycles.ensures o M bus out at)

pub returns : goal.returns
returns g c =
    let M = c.args.world.now.mission in
    let bus = g.B.Bus.seen c.args.bus.now in
    let out = g.K.Sink.seen c.args.out.now in
    let out' = g.K.Sink.seen c.put_head.new.out in
    let wrote : Puts out out' (head M) c.put_head.result =
    subst (λ m. Puts out out' (head m) c.put_head.result) c.mission-2.ensures c.put_head.ensures in
    let o = M.actuator in
    let first = mission_begins g.B.Bus.may M bus c.requires.mission c.requires.loaded in
    let done = head_done g.B.Bus.may c.args.trace M o bus out out' (option_map first_gate o) first c.put_head.result
    wrote in
    let begun = subst (λ r. GoesTo g.B.Bus.may c.args.trace M o bus out 0 (first_world M) bus (option_map first_gate o)
    out' r) (sym c.in_ok-run_result.ensures) done in
    let at = subst (λ x. IsAt g.B.Bus.may c.args.trace M o bus out c.args.world.now bus x out')
    (sym (c.first_gate-actuator.ensures
    ∙ ap (λ (m : MissionValue). option_map first_gate m.actuator) c.mission.ensures))
    (subst (λ (w : WorldValue). IsAt g.B.Bus.may c.args.trace M o bus out w bus (option_map first_gate o) out')
    (sym c.requires.fresh) begun.0) in
    let (ran, all) = c.in_ok-run_cycles.ensures o M bus out at in
    let w = c.run_cycles.new.world in
    let after = g.B.Bus.seen c.run_cycles.new.bus in
    let before = g.K.Sink.seen c.run_cycles.new.out in
    let last_out = g.K.Sink.seen c.put_end.new.out in
    let mission = at_mission g.B.Bus.may c.args.trace M o bus out w after c.run_cycles.new.actuator before ran in
    let told : Puts before last_out (last M) c.put_end.result =
    subst (λ m. Puts before last_out (last m) c.put_end.result) (c.mission-3.ensures ∙ mission) c.put_end.ensures in
    subst (λ r. Runs g.B.Bus.may c.args.trace M o bus after out last_out r) (sym c.run_result-2.ensures)
    (end_done g.B.Bus.may c.args.trace M o bus out w after c.run_cycles.new.actuator before last_out ran all
    c.put_end.result told)
