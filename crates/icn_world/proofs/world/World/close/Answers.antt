use Rattle.guards_model.specs.declared.Slot.TheVariants.{Sweep}
use Rattle.channel_node.specs.Closing.{closed_value}
use Rattle.icn_world.proofs.Entering.{hands_by}
use Rattle.icn_world.proofs.CycleClosed.{may_close_by, first_closes, some_closes, closes_by, swept_by}
use Rattle.icn_world.proofs.world.World.close.Goals as goal

pub close-requires : goal.close-requires
close-requires g c =
    may_close_by c.args.self.now _ c.on-members.result (g.A.Arrived.got c.args.arrived.now) c.take_sweep.new.self
    c.self.view_is c.requires c.in_ok-take_sweep.ensures.state

pub unwrap-closed-requires : goal.unwrap-closed-requires
unwrap-closed-requires g c =
    some_closes closed_value c.close.result _ _ c.close.ensures.answer
    (first_closes c.args.self.now _ c.on-members.result (g.A.Arrived.got c.args.arrived.now) c.take_sweep.new.self
    c.self.view_is
    c.requires.0 c.requires.1 c.requires.2 c.requires.3 c.in_ok-take_sweep.ensures.state)

pub returns-clause-state : goal.returns-clause-state
returns-clause-state g c = λ earlier current steps inside are.
    hands_by c.args.self.now _ earlier current steps Sweep 7 6 7 c.close.new.self c.self.view_is inside
    (λ held. swept_by c.args.self.now _ earlier current steps (g.A.Arrived.got c.args.arrived.now) c.on-members.result
    c.take_sweep.new.self c.close.new.self c.self.view_is
    c.on-members.ensures are c.in_ok-take_sweep.ensures.state c.close.ensures.state held)

pub returns-clause-closed : goal.returns-clause-closed
returns-clause-closed g c = λ earlier current steps inside.
    closes_by closed_value c.close.result c.unwrap-closed.result _ _ c.unwrap-closed.ensures c.close.ensures.answer
    (first_closes c.args.self.now _ c.on-members.result (g.A.Arrived.got c.args.arrived.now) c.take_sweep.new.self
    c.self.view_is
    earlier current steps inside c.in_ok-take_sweep.ensures.state)
