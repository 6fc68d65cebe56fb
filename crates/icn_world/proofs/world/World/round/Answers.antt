use Rattle.std.proofs.Common.{suc, ◌++◌}
use Rattle.guards_model.specs.Slots.{slot_index, stage_after}
use Rattle.icn_world.specs.Stages.{IsWithinCycle}
use Rattle.icn_world.proofs.Chaining.{halted_by, then_step}
use Rattle.icn_world.proofs.RoundStages.{round_on_bus, round_to_active, may_receive, receives_round}
use Rattle.icn_world.proofs.world.World.round.Goals as goal

pub pass_slot-requires-clause-on : goal.pass_slot-requires-clause-on
pass_slot-requires-clause-on g c = round_on_bus c.args.slot c.requires.low

pub pass_slot-requires-clause-among : goal.pass_slot-requires-clause-among
pass_slot-requires-clause-among g c = round_to_active c.args.slot c.requires.low

pub returns-in_err-arrived : goal.returns-in_err-arrived
returns-in_err-arrived g c = halted_by c.from_residual.result c.from_residual.ensures.1 c.in_err-arrived.ensures

pub receive-requires-clause-stands : goal.receive-requires-clause-stands
receive-requires-clause-stands g c =
    let held = c.requires.stands in
    may_receive c.args.slot c.in_ok-arrived.arrived c.pass_slot.new.self c.pass_slot.new.disturbance held.0
    (held.1 ++ c.in_ok-arrived.ensures.entries) held.2
    (c.in_ok-arrived.ensures.ends held.0 held.1 held.2 held.3)

pub returns : goal.returns
returns g c =
    then_step (λ u. IsWithinCycle c.args.slot (stage_after c.args.slot) (stage_after c.args.slot)) tt c.receive.new.self
    c.receive.ensures.kept
    (receives_round c.args.slot c.in_ok-arrived.arrived c.pass_slot.new.self c.receive.new.self
    c.pass_slot.new.disturbance c.requires.low c.requires.high
    c.receive.ensures.kept c.receive.ensures.state) c.in_ok-arrived.ensures
