use Rattle.std.proofs.Common.{refl}
use Rattle.guards_model.specs.declared.Slot.TheVariants.{Sweep, Final}
use Rattle.icn_world.specs.Restored.{MayRestore, HasClosed}
use Rattle.icn_world.proofs.SlotPassed.{may_be_carried, carry_halts, has_arrived, handing_fails, handed}
use Rattle.icn_world.proofs.Refilling.{may_sweep, closes}
use Rattle.icn_world.proofs.world.World.pass_sweep.Goals as goal

pub carry-requires : goal.carry-requires
carry-requires g c =
    may_be_carried (MayRestore c.args.targets) Sweep c.args.targets c.args.self.now c.enter.new.self
    c.args.disturbance.now
    (may_sweep c.args.targets c.args.self.now c.enter.new.self c.args.disturbance.now c.enter.ensures.kept
    c.enter.ensures.state) c.requires

pub returns-in_err-arrived : goal.returns-in_err-arrived
returns-in_err-arrived g c =
    carry_halts (MayRestore c.args.targets) Sweep c.args.targets c.args.self.now c.enter.new.self c.carry.new.self
    c.args.disturbance.now c.carry.new.disturbance _ _ c.enter.ensures.kept
    (may_sweep c.args.targets c.args.self.now c.enter.new.self c.args.disturbance.now c.enter.ensures.kept
    c.enter.ensures.state) c.from_residual.result c.from_residual.ensures.1 c.in_err-arrived.ensures

pub close-requires : goal.close-requires
close-requires g c =
    let held =
    has_arrived (MayRestore c.args.targets) Sweep c.args.targets c.args.self.now c.enter.new.self c.carry.new.self
    c.args.disturbance.now c.carry.new.disturbance _ _ c.enter.ensures.kept
    (may_sweep c.args.targets c.args.self.now c.enter.new.self c.args.disturbance.now c.enter.ensures.kept
    c.enter.ensures.state) c.in_ok-arrived.ensures c.requires in
    (held.0, held.1, held.2, held.3.stands.inside)

pub returns-in_err-closed : goal.returns-in_err-closed
returns-in_err-closed g c =
    handing_fails (MayRestore c.args.targets) Sweep c.args.targets c.args.self.now c.enter.new.self c.carry.new.self
    c.args.disturbance.now c.carry.new.disturbance _ _ c.enter.ensures.kept
    (may_sweep c.args.targets c.args.self.now c.enter.new.self c.args.disturbance.now c.enter.ensures.kept
    c.enter.ensures.state) c.in_ok-arrived.ensures
    c.close.new.self c.close.ensures.kept HasClosed Final refl refl c.from_residual-in_err-closed.ensures.1

pub returns : goal.returns
returns g c =
    handed (MayRestore c.args.targets) Sweep c.args.targets c.args.self.now c.enter.new.self c.carry.new.self
    c.args.disturbance.now c.carry.new.disturbance _ _ c.enter.ensures.kept
    (may_sweep c.args.targets c.args.self.now c.enter.new.self c.args.disturbance.now c.enter.ensures.kept
    c.enter.ensures.state) c.in_ok-arrived.ensures
    c.close.new.self c.close.ensures.kept HasClosed
    (closes c.in_ok-arrived.arrived c.in_ok-closed.closed c.carry.new.self c.close.new.self c.carry.new.disturbance
    c.close.ensures.kept c.in_ok-closed.ensures.state c.in_ok-closed.ensures.closed)
