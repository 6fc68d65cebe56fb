use Rattle.guards_model.specs.declared.Slot.TheVariants.{Request}
use Rattle.guards_model.specs.Slots.{stage_after}
use Rattle.icn_world.specs.Stages.{IsWithinCycle, IsAtStart}
use Rattle.icn_world.proofs.Chaining.{without_memory, halted_by, after_step, then_step}
use Rattle.icn_world.proofs.RoundStages.{nothing_carried, opens_cycle, hears_requests}
use Rattle.icn_world.proofs.world.World.ask.Goals as goal

pub returns-in_err-open : goal.returns-in_err-open
returns-in_err-open g c =
    without_memory _ IsAtStart _ c.from_residual.result c.args.self.now c.open.new.self c.args.disturbance.now _
    c.from_residual.ensures.1 c.in_err-open.ensures.kept
    (nothing_carried c.args.self.now c.args.disturbance.now)

pub carry_to_active-requires-clause-stands : goal.carry_to_active-requires-clause-stands
carry_to_active-requires-clause-stands g c =
    let held = c.requires in (
      held.0,
      held.1,
      held.2,
      opens_cycle c.args.self.now c.open.new.self c.args.disturbance.now c.in_ok-open.ensures.kept
          c.in_ok-open.ensures.state held.0 held.1 held.2 held.3,
    )

pub returns-in_err-arrived : goal.returns-in_err-arrived
returns-in_err-arrived g c =
    after_step IsAtStart c.args.self.now c.in_ok-open.ensures.kept
    (opens_cycle c.args.self.now c.open.new.self c.args.disturbance.now c.in_ok-open.ensures.kept
    c.in_ok-open.ensures.state)
    (halted_by c.from_residual-in_err-arrived.result c.from_residual-in_err-arrived.ensures.1 c.in_err-arrived.ensures)

pub returns : goal.returns
returns g c =
    after_step IsAtStart c.args.self.now c.in_ok-open.ensures.kept
    (opens_cycle c.args.self.now c.open.new.self c.args.disturbance.now c.in_ok-open.ensures.kept
    c.in_ok-open.ensures.state)
    (then_step (λ u. IsWithinCycle Request (stage_after Request) (stage_after Request)) tt c.hear.new.self
    c.hear.ensures.kept
    (hears_requests c.in_ok-arrived.arrived c.carry_to_active.new.self c.hear.new.self c.carry_to_active.new.disturbance
    c.hear.ensures.kept c.hear.ensures.state) c.in_ok-arrived.ensures)
