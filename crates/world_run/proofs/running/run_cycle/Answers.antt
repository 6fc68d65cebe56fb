use Rattle.std.proofs.Common.{suc, length, ap, sym, subst, ◌∙◌}
use Rattle.guards_model.specs.Missions.{MissionValue}
use Rattle.icn_world.specs.Halts.{with_halt_value}
use Rattle.run_laws.specs.Driving.{Drives}
use Rattle.run_laws.proofs.Driving.{driven_fits}
use Rattle.guards_io.specs.Writes.{Puts}
use Rattle.world_run.specs.Running.{GoesTo, cycle_text}
use Rattle.world_run.proofs.RunSteps.{step_done, step_halted}
use Rattle.world_run.proofs.running.run_cycle.Goals as goal

pub pass-requires-clause-driven : goal.pass-requires-clause-driven
pass-requires-clause-driven g c κs within =
    let (o, M, start, begun, at) = c.requires.at in
    (o, M, start, at.0, at.1, at.2)

pub put_cycle-requires : goal.put_cycle-requires
put_cycle-requires g c =
    let (o, M, start, begun, at) = c.requires.at in
    let new = c.pass.new.world in
    let after = g.B.Bus.seen c.pass.new.bus in
    let d = subst (λ r. Drives o g.B.Bus.may M start c.args.world.now at.0 at.1 (with_halt_value r) new after
    c.pass.new.actuator) c.in-Ok.is (c.pass.ensures o M start at.0 at.1 at.2) in
    let fits = driven_fits g.B.Bus.may M start new after c.pass.new.actuator d.0 d.1 o d.2 in
    λ gate is. fits gate is ∙ ap (λ (m : MissionValue). length m.outputs) (sym c.mission.ensures)

pub returns-in-Ok : goal.returns-in-Ok
returns-in-Ok g c =
    λ o M start begun at.
    let w = c.args.world.now in
    let new = c.pass.new.world in
    let bus = g.B.Bus.seen c.args.bus.now in
    let after = g.B.Bus.seen c.pass.new.bus in
    let out = g.K.Sink.seen c.args.out.now in
    let out' = g.K.Sink.seen c.put_cycle.new.out in
    let gate = c.args.actuator.now in
    let gate_after = c.pass.new.actuator in
    let d = subst (λ r. Drives o g.B.Bus.may M start w at.0 at.1 (with_halt_value r) new after gate_after) c.in-Ok.is
    (c.pass.ensures o M start at.0 at.1 at.2) in
    let wrote : Puts out out' (cycle_text c.args.trace new.mission gate_after c.in-Ok.part) c.put_cycle.result =
    subst (λ mission. Puts out out' (cycle_text c.args.trace mission gate_after c.in-Ok.part) c.put_cycle.result)
    c.mission.ensures c.put_cycle.ensures in
    subst (λ r. GoesTo g.B.Bus.may c.args.trace M o start begun (suc w.done) new after gate_after out' r)
    (sym c.run_result.ensures)
    (step_done g.B.Bus.may c.args.trace M o start begun w new bus after gate gate_after out out' at c.in-Ok.part d
    c.put_cycle.result wrote)

pub returns-in-Err : goal.returns-in-Err
returns-in-Err g c =
    λ o M start begun at.
    let w = c.args.world.now in
    let new = c.pass.new.world in
    let bus = g.B.Bus.seen c.args.bus.now in
    let after = g.B.Bus.seen c.pass.new.bus in
    let out = g.K.Sink.seen c.args.out.now in
    let out' = g.K.Sink.seen c.put_halt.new.out in
    let gate = c.args.actuator.now in
    let gate_after = c.pass.new.actuator in
    let d = subst (λ r. Drives o g.B.Bus.may M start w at.0 at.1 (with_halt_value r) new after gate_after) c.in-Err.is
    (c.pass.ensures o M start at.0 at.1 at.2) in
    step_halted g.B.Bus.may c.args.trace M o start begun w new bus after gate gate_after out out' at c.in-Err.halt
    c.put_halt.result d c.put_halt.ensures
