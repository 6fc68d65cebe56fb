use Rattle.icn_world.specs.Settled.{MayEnter}
use Rattle.icn_world.proofs.Chaining.{after_step}
use Rattle.icn_world.proofs.RoundStages.{enters_next}
use Rattle.icn_world.proofs.world.World.pass_slot.Goals as goal

pub carry_to_active-requires-clause-stands : goal.carry_to_active-requires-clause-stands
carry_to_active-requires-clause-stands g c =
    let held = c.requires.stands in (
      held.0,
      held.1,
      held.2,
      enters_next c.args.slot c.args.self.now c.enter.new.self c.args.disturbance.now c.requires.on c.enter.ensures.kept
          c.enter.ensures.state held.0 held.1 held.2 held.3,
    )

pub returns : goal.returns
returns g c =
    after_step (MayEnter c.args.slot) c.args.self.now c.enter.ensures.kept
    (enters_next c.args.slot c.args.self.now c.enter.new.self c.args.disturbance.now c.requires.on c.enter.ensures.kept
    c.enter.ensures.state)
    c.carry_to_active.ensures
