use Rattle.std.proofs.Common.{◌∙◌}
use Rattle.world_traffic.specs.Reading.{got_of}
use Rattle.icn_world.proofs.WorldDecided.{may_decide_then, some_answer, decides_world, settled_then}
use Rattle.icn_world.proofs.world.World.decide.Goals as goal

pub decide-requires : goal.decide-requires
decide-requires c =
    let held = c.requires in
    may_decide_then c.args.self.now _ held.0 held.1 held.2 (got_of c.args.arrived.now) held.3 held.4
    (c.self.view_is ∙ c.receive.ensures.state held.0 held.1 held.2 held.3 held.4)

pub unwrap-removed-requires : goal.unwrap-removed-requires
unwrap-removed-requires c =
    let held = c.requires in
    some_answer c.args.self.now _ held.0 held.1 held.2 (got_of c.args.arrived.now) held.3 held.4
    (c.self.view_is ∙ c.receive.ensures.state held.0 held.1 held.2 held.3 held.4) c.decide.new.self
    c.decide.ensures.state c.decide.result c.decide.ensures.answer

pub returns-clause-state : goal.returns-clause-state
returns-clause-state c = λ earlier current steps inside are.
    decides_world c.args.self.now _ earlier current steps (got_of c.args.arrived.now) inside are
    (c.self.view_is ∙ c.receive.ensures.state earlier current steps inside are) c.decide.new.self c.decide.ensures.state

pub returns-clause-settled : goal.returns-clause-settled
returns-clause-settled c = λ earlier current steps inside are.
    settled_then c.args.self.now _ earlier current steps (got_of c.args.arrived.now) inside are
    (c.self.view_is ∙ c.receive.ensures.state earlier current steps inside are) c.decide.new.self c.decide.ensures.state
    c.decide.result c.decide.ensures.answer
    c.unwrap-removed.result c.unwrap-removed.ensures c.transfer.result c.transfer.ensures
