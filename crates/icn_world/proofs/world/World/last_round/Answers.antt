use Rattle.std.proofs.Common.{◌++◌}
use Rattle.guards_model.specs.declared.Slot.TheVariants.{Round3}
use Rattle.icn_world.specs.Settled.{IsDecided}
use Rattle.icn_world.proofs.Chaining.{halted_by, then_step}
use Rattle.icn_world.proofs.RoundStages.{may_receive, decides_rounds}
use Rattle.icn_world.proofs.world.World.last_round.Goals as goal

pub returns-in_err-arrived : goal.returns-in_err-arrived
returns-in_err-arrived g c = halted_by c.from_residual.result c.from_residual.ensures.1 c.in_err-arrived.ensures

pub decide-requires : goal.decide-requires
decide-requires g c =
    let held = c.requires in
    may_receive Round3 c.in_ok-arrived.arrived c.pass_slot.new.self c.pass_slot.new.disturbance held.0
    (held.1 ++ c.in_ok-arrived.ensures.entries) held.2
    (c.in_ok-arrived.ensures.ends held.0 held.1 held.2 held.3)

pub returns : goal.returns
returns g c =
    then_step IsDecided c.decide.result c.decide.new.self c.decide.ensures.kept
    (decides_rounds c.in_ok-arrived.arrived c.decide.result c.pass_slot.new.self c.decide.new.self
    c.pass_slot.new.disturbance
    c.decide.ensures.kept c.decide.ensures.state c.decide.ensures.settled) c.in_ok-arrived.ensures
