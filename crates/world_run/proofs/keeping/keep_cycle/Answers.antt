use Rattle.std.proofs.Common.{length, ap, sym, subst, ◌∙◌}
use Rattle.guards_model.specs.Missions.{MissionValue}
use Rattle.icn_world.specs.Halts.{with_halt_value}
use Rattle.run_laws.specs.Driving.{Drives}
use Rattle.run_laws.proofs.Driving.{driven_fits}
use Rattle.world_run.specs.Running.{cycle_text}
use Rattle.world_run.specs.Keeping.{Keeps}
use Rattle.world_run.proofs.Keepings.{keep_done, keep_halted}
use Rattle.world_run.proofs.keeping.keep_cycle.Goals as goal

pub pass-requires-clause-driven : goal.pass-requires-clause-driven
pass-requires-clause-driven g c κs within =
    let (k, o, M, start, at) = c.requires.at in
    (o, M, start, at.0, at.1, at.2)

pub keep-requires : goal.keep-requires
keep-requires g c =
    let (k, o, M, start, at) = c.requires.at in
    let new = c.pass.new.world in
    let after = g.B.Bus.seen c.pass.new.bus in
    let d = subst (λ r. Drives o g.B.Bus.may M start c.args.world.now at.0 at.1 (with_halt_value r) new after
    c.pass.new.actuator) c.in-Ok.is (c.pass.ensures o M start at.0 at.1 at.2) in
    let fits = driven_fits g.B.Bus.may M start new after c.pass.new.actuator d.0 d.1 o d.2 in
    λ gate is. fits gate is ∙ ap (λ (m : MissionValue). length m.outputs) (sym c.mission.ensures)

pub returns-in-Ok : goal.returns-in-Ok
returns-in-Ok g c =
    λ k o M start at.
    let w = c.args.world.now in
    let new = c.pass.new.world in
    let bus = g.B.Bus.seen c.args.bus.now in
    let after = g.B.Bus.seen c.pass.new.bus in
    let gate_after = c.pass.new.actuator in
    let d = subst (λ r. Drives o g.B.Bus.may M start w at.0 at.1 (with_halt_value r) new after gate_after) c.in-Ok.is
    (c.pass.ensures o M start at.0 at.1 at.2) in
    let keeps : Keeps c.args.log.now c.keep.new.log (cycle_text c.args.trace new.mission gate_after c.in-Ok.part)
    c.keep.result =
    subst (λ mission. Keeps c.args.log.now c.keep.new.log (cycle_text c.args.trace mission gate_after c.in-Ok.part)
    c.keep.result) c.mission.ensures c.keep.ensures in
    keep_done g.B.Bus.may k c.args.trace M o start w new bus after c.args.actuator.now gate_after c.args.log.now
    c.keep.new.log at c.in-Ok.part d c.keep.result keeps

pub returns-in-Err : goal.returns-in-Err
returns-in-Err g c =
    λ k o M start at.
    let w = c.args.world.now in
    let new = c.pass.new.world in
    let bus = g.B.Bus.seen c.args.bus.now in
    let after = g.B.Bus.seen c.pass.new.bus in
    let gate_after = c.pass.new.actuator in
    let d = subst (λ r. Drives o g.B.Bus.may M start w at.0 at.1 (with_halt_value r) new after gate_after) c.in-Err.is
    (c.pass.ensures o M start at.0 at.1 at.2) in
    keep_halted g.B.Bus.may k c.args.trace M o start w new bus after c.args.actuator.now gate_after c.args.log.now
    c.args.log.now at c.in-Err.halt d
