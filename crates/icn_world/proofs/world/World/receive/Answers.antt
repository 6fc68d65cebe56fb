use Rattle.std.proofs.Common.{sym, ◌∙◌}
use Rattle.world_traffic.specs.Reading.{got_of}
use Rattle.icn_world.proofs.ReceivedWorld.{may_receive_by, of_round_by, received_by, unreceived_by}
use Rattle.icn_world.proofs.world.World.receive.Goals as goal

pub receive-requires-clause-may : goal.receive-requires-clause-may
receive-requires-clause-may c =
    may_receive_by c.args.self.now _ c.self.view_is c.args.slot c.requires.round c.args.arrived.now c.requires.stands
    c.index-round.result c.index-round.ensures
    c.on-members.result c.on-members.ensures (sym c.has_round.ensures ∙ c.if-has_round.true)

pub receive-requires-clause-rounds : goal.receive-requires-clause-rounds
receive-requires-clause-rounds c =
    of_round_by c.args.self.now c.args.slot c.requires.round c.args.arrived.now c.requires.stands c.index-round.result
    c.index-round.ensures

pub returns-then-has_round-clause-state : goal.returns-then-has_round-clause-state
returns-then-has_round-clause-state c = λ earlier current steps inside are.
    received_by c.args.self.now _ c.self.view_is c.args.slot c.requires.round earlier current steps inside
    c.index-round.result c.index-round.ensures
    c.on-members.result c.on-members.ensures (sym c.has_round.ensures ∙ c.if-has_round.true) (got_of c.args.arrived.now)
    c.receive.new.self c.receive.ensures.state

pub returns-else-has_round-clause-state : goal.returns-else-has_round-clause-state
returns-else-has_round-clause-state c = λ earlier current steps inside are.
    unreceived_by c.args.self.now _ c.self.view_is c.args.slot c.requires.round earlier current steps inside
    c.index-round.result c.index-round.ensures
    c.on-members.result c.on-members.ensures (sym c.has_round.ensures ∙ c.if-has_round.false)
    (got_of c.args.arrived.now)
