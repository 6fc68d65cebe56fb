use Rattle.std.proofs.Common.{ap, ◌∙◌}
use Rattle.guards_model.specs.Slots.{slot_index, stage_before}
use Rattle.guards_world.specs.Worlds.{WorldValue}
use Rattle.icn_world.specs.Stages.{IsWithinCycle}
use Rattle.icn_world.proofs.Chaining.{from}
use Rattle.icn_world.proofs.RoundStages.{carries_to}
use Rattle.icn_world.proofs.world.World.carry_to_active.Goals as goal

pub carry-requires : goal.carry-requires
carry-requires g c =
    let held = c.requires.stands in (
      held.0,
      held.1,
      held.2,
      carries_to c.args.slot c.on-members.result c.args.self.now c.args.disturbance.now c.requires.on c.requires.among
          (c.on-members.ensures ∙ ap (λ (w : WorldValue). w.switches) c.self.view_is) held.0 held.1 held.2 held.3,
    )

pub returns : goal.returns
returns g c =
    from (IsWithinCycle c.args.slot (stage_before c.args.slot) (stage_before c.args.slot))
    (carries_to c.args.slot c.on-members.result c.args.self.now c.args.disturbance.now c.requires.on c.requires.among
    (c.on-members.ensures ∙ ap (λ (w : WorldValue). w.switches) c.self.view_is)) c.carry.ensures
