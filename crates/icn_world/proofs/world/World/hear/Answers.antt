use Rattle.std.proofs.Common.{◌∙◌}
use Rattle.guards_model.specs.declared.Slot.TheVariants.{Request}
use Rattle.icn_world.proofs.Entering.{hands_by, heard_by}
use Rattle.icn_world.proofs.world.World.hear.Goals as goal

pub returns-clause-state : goal.returns-clause-state
returns-clause-state g c = λ earlier current steps inside are.
    hands_by c.args.self.now _ earlier current steps Request 1 0 1 c.hear.new.self c.self.view_is inside
    (λ held. c.hear.ensures.state
    ∙ heard_by c.args.self.now _ earlier current steps (g.A.Arrived.got c.args.arrived.now) c.self.view_is are held)
