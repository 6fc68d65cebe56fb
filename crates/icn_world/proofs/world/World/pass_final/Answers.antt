use Rattle.std.proofs.Common.{refl}
use Rattle.guards_model.specs.declared.Slot.TheVariants.{Final, Switch}
use Rattle.icn_world.specs.Restored.{MayTakeContent, IsTaken}
use Rattle.icn_world.proofs.SlotPassed.{may_be_carried, carry_halts, handing_fails, handed}
use Rattle.icn_world.proofs.Refilling.{may_take, takes}
use Rattle.icn_world.proofs.world.World.pass_final.Goals as goal

pub carry-requires : goal.carry-requires
carry-requires g c =
    may_be_carried (MayTakeContent c.args.joined) Final c.args.joined c.args.self.now c.enter.new.self
    c.args.disturbance.now
    (may_take c.args.joined c.args.self.now c.enter.new.self c.args.disturbance.now c.enter.ensures.kept
    c.enter.ensures.state) c.requires

pub returns-in_err-arrived : goal.returns-in_err-arrived
returns-in_err-arrived g c =
    carry_halts (MayTakeContent c.args.joined) Final c.args.joined c.args.self.now c.enter.new.self c.carry.new.self
    c.args.disturbance.now c.carry.new.disturbance _ _ c.enter.ensures.kept
    (may_take c.args.joined c.args.self.now c.enter.new.self c.args.disturbance.now c.enter.ensures.kept
    c.enter.ensures.state) c.from_residual.result c.from_residual.ensures.1 c.in_err-arrived.ensures

pub returns-in_err-taken : goal.returns-in_err-taken
returns-in_err-taken g c =
    handing_fails (MayTakeContent c.args.joined) Final c.args.joined c.args.self.now c.enter.new.self c.carry.new.self
    c.args.disturbance.now c.carry.new.disturbance _ _ c.enter.ensures.kept
    (may_take c.args.joined c.args.self.now c.enter.new.self c.args.disturbance.now c.enter.ensures.kept
    c.enter.ensures.state) c.in_ok-arrived.ensures
    c.take_final.new.self c.take_final.ensures.kept IsTaken Switch refl refl c.from_residual-in_err-taken.ensures.1

pub returns : goal.returns
returns g c =
    handed (MayTakeContent c.args.joined) Final c.args.joined c.args.self.now c.enter.new.self c.carry.new.self
    c.args.disturbance.now c.carry.new.disturbance _ _ c.enter.ensures.kept
    (may_take c.args.joined c.args.self.now c.enter.new.self c.args.disturbance.now c.enter.ensures.kept
    c.enter.ensures.state) c.in_ok-arrived.ensures
    c.take_final.new.self c.take_final.ensures.kept IsTaken
    (takes c.in_ok-arrived.arrived c.in_ok-taken.taken c.carry.new.self c.take_final.new.self c.carry.new.disturbance
    c.take_final.ensures.kept c.in_ok-taken.ensures.state c.in_ok-taken.ensures.taken)
