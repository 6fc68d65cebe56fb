use Rattle.std.proofs.Common.{[], ◌∷◌}
use Rattle.guards_model.specs.declared.Slot.TheVariants.{Final, Switch}
use Rattle.guards_model.specs.Network.{switchboard}
use Rattle.guards_model.specs.Slots.{stage_after}
use Rattle.icn_world.specs.Stages.{IsWithinCycle}
use Rattle.icn_world.specs.Restored.{IsSwitched}
use Rattle.icn_world.proofs.SlotPassed.{may_be_carried, carry_halts, handed}
use Rattle.icn_world.proofs.Refilling.{may_switch, nothing_kept, sends}
use Rattle.icn_world.proofs.world.World.pass_switch.Goals as goal

pub carry-requires : goal.carry-requires
carry-requires g c =
    may_be_carried (IsWithinCycle Final (stage_after Final) (stage_after Final)) Switch (switchboard ∷ [])
    c.args.self.now c.enter.new.self c.args.disturbance.now
    (may_switch c.args.self.now c.enter.new.self c.args.disturbance.now c.enter.ensures.kept c.enter.ensures.state)
    c.requires

pub returns-in_err-arrived : goal.returns-in_err-arrived
returns-in_err-arrived g c =
    carry_halts (IsWithinCycle Final (stage_after Final) (stage_after Final)) Switch (switchboard ∷ []) c.args.self.now
    c.enter.new.self c.carry.new.self c.args.disturbance.now c.carry.new.disturbance _ _ c.enter.ensures.kept
    (may_switch c.args.self.now c.enter.new.self c.args.disturbance.now c.enter.ensures.kept c.enter.ensures.state)
    c.from_residual.result c.from_residual.ensures.1 c.in_err-arrived.ensures

pub returns : goal.returns
returns g c =
    handed (IsWithinCycle Final (stage_after Final) (stage_after Final)) Switch (switchboard ∷ []) c.args.self.now
    c.enter.new.self c.carry.new.self c.args.disturbance.now c.carry.new.disturbance _ _ c.enter.ensures.kept
    (may_switch c.args.self.now c.enter.new.self c.args.disturbance.now c.enter.ensures.kept c.enter.ensures.state)
    c.in_ok-arrived.ensures
    c.carry.new.self (nothing_kept c.carry.new.self) IsSwitched
    (sends c.in_ok-arrived.arrived c.sets_sent-sent.result c.carry.new.self c.carry.new.disturbance
    c.sets_sent-sent.ensures)
