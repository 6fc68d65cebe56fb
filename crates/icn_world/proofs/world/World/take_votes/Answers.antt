use Rattle.std.proofs.Common.{◌∙◌}
use Rattle.guards_model.specs.declared.Slot.TheVariants.{Vote}
use Rattle.icn_world.proofs.Entering.{hands_by}
use Rattle.icn_world.proofs.Handing.{may_vote_by, voted_by}
use Rattle.icn_world.proofs.LinesTold.{tells_by}
use Rattle.icn_world.proofs.world.World.take_votes.Goals as goal

pub take_votes-requires : goal.take_votes-requires
take_votes-requires g c = may_vote_by c.args.self.now _ c.self.view_is c.requires

pub returns-clause-state : goal.returns-clause-state
returns-clause-state g c = λ earlier current steps inside are worked.
    hands_by c.args.self.now _ earlier current steps Vote 6 5 6 c.take_votes.new.self c.self.view_is inside
    (λ held. c.in_ok-lines.ensures.state
    ∙ voted_by c.args.self.now _ earlier current steps (g.A.Arrived.got c.args.arrived.now) c.self.view_is are
    worked held)

pub returns-clause-lines : goal.returns-clause-lines
returns-clause-lines g c = λ earlier current steps inside are worked.
    tells_by c.args.self.now _ earlier current steps (g.A.Arrived.got c.args.arrived.now) _ c.self.view_is
    c.in_ok-lines.ensures.lines inside are worked
