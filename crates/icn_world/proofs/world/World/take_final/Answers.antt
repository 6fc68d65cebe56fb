use Rattle.std.proofs.Common.{◌∙◌}
use Rattle.guards_model.specs.declared.Slot.TheVariants.{Final}
use Rattle.icn_world.proofs.Entering.{hands_by}
use Rattle.icn_world.proofs.Handing.{filled_by}
use Rattle.icn_world.proofs.ContentTaken.{taken_by}
use Rattle.icn_world.proofs.world.World.take_final.Goals as goal

pub returns-clause-state : goal.returns-clause-state
returns-clause-state g c = λ earlier current steps inside are.
    hands_by c.args.self.now _ earlier current steps Final 8 7 8 c.take_final.new.self c.self.view_is inside
    (λ held. c.in_ok-taken.ensures.state
    ∙ filled_by c.args.self.now _ earlier current steps (g.A.Arrived.got c.args.arrived.now) c.on-members.result
    c.self.view_is c.on-members.ensures are held)

pub returns-clause-taken : goal.returns-clause-taken
returns-clause-taken g c = λ earlier current steps inside are.
    taken_by c.args.self.now _ earlier current steps (g.A.Arrived.got c.args.arrived.now) c.on-members.result _
    c.self.view_is c.on-members.ensures inside are
    c.in_ok-taken.ensures.took
