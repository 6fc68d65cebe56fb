use Rattle.std.proofs.Common.{rules, ◌≡◌, List, ℕ, true, filter, ap, sym, ◌∙◌}
use Rattle.std.proofs.lemmas.List.{nil_from_length}
use Rattle.guards_model.specs.Channels.{has}
use Rattle.guards_model.specs.Network.{items_of}
use Rattle.guards_model.specs.Frames.{is_distinct}
use Rattle.guards_nodes.specs.NodeSteps.{Received}
use Rattle.guards_nodes.specs.NodeCalls.{changed}
use Rattle.guards_world.specs.NodeLists.{after_exchanges, MayTake}
use Rattle.world_nodes.proofs.Exchanges.{nothing_taken, receive_next, rest_distinct, received_all}
use Rattle.world_nodes.proofs.rounds.+receive_from.Goals as goal

pub returns-in_default : goal.returns-in_default
returns-in_default g t c = λ received may.
    let got = g.A.Arrived.got c.args.arrived.now in
    let node = c.args.node.now in
    sym (ap (λ (cs : List ℕ).
    changed (after_exchanges c.args.round (λ j. items_of (got j node.channel)) received
    (filter (has c.args.others) cs)) node) (nil_from_length c.args.channels.now c.in_default.ensures.cases)
    ∙ nothing_taken c.args.round (λ j. items_of (got j node.channel)) received node may.stands)

pub receive_from-requires : goal.receive_from-requires
receive_from-requires g t c κs within =
    let got = g.A.Arrived.got c.args.arrived.now in
    let node = c.args.node.now in
    let distinct : is_distinct c.in-Some.rest.now ≡ true =
    rest_distinct c.args.channels.now c.in-Some.from.now c.in-Some.rest.now c.in-Some.ensures.cases.0
    c.requires.distinct in
    let next = receive_next c.args.round (λ j. items_of (got j node.channel)) c.args.others c.args.channels.now
    c.in-Some.from.now c.in-Some.rest.now
    c.requires.may.0 node c.receive_one.new.node c.in-Some.ensures.cases.0 c.requires.distinct c.requires.may.1
    c.receive_one.ensures in
    let may : (received : Received)
    × MayTake c.args.round c.args.others c.in-Some.rest.now received c.receive_one.new.node = (_, next) in
    search (rules, distinct, may)

pub returns : goal.returns
returns g t c = λ received may.
    let got = g.A.Arrived.got c.args.arrived.now in
    received_all c.args.round (λ q j. items_of (got j q)) c.args.others c.args.channels.now c.in-Some.from.now
    c.in-Some.rest.now
    received c.args.node.now c.receive_one.new.node c.receive_from.new.node c.in-Some.ensures.cases.0
    c.requires.distinct may c.receive_one.ensures c.receive_from.ensures
