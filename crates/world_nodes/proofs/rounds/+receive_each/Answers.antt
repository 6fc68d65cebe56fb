use Rattle.std.proofs.Common.{rules, List, ◌∷◌, map, All, ap, sym, subst, ◌∙◌}
use Rattle.guards_nodes.specs.NodeStates.{NodeValue}
use Rattle.guards_world.specs.NodeLists.{AllReceived, with_exchanges, MayReceive}
use Rattle.world_nodes.proofs.Changes.{all_parts}
use Rattle.world_nodes.proofs.rounds.+receive_each.Goals as goal

pub receive_each-requires : goal.receive_each-requires
receive_each-requires g t c κs within =
    let received = c.requires.may.0 in
    let may : (received : AllReceived) × All (MayReceive c.args.round c.args.members received) c.in-Some.rest.now = (
      received,
      (all_parts (MayReceive c.args.round c.args.members received) c.in-Some.node.now c.in-Some.rest.now
          (subst (λ (nodes : List NodeValue). All (MayReceive c.args.round c.args.members received) nodes)
          c.in-Some.ensures.cases.0 c.requires.may.1)).1,
    ) in
    search (rules, may)

pub returns-in-Some : goal.returns-in-Some
returns-in-Some g t c = λ received may.
    let step : NodeValue → NodeValue =
    with_exchanges c.args.round c.args.members (g.A.Arrived.got c.args.arrived.now) received in
    let parts = all_parts (MayReceive c.args.round c.args.members received) c.in-Some.node.now c.in-Some.rest.now
    (subst (λ (nodes : List NodeValue). All (MayReceive c.args.round c.args.members received) nodes)
    c.in-Some.ensures.cases.0 may) in
    ap (λ (node : NodeValue). node ∷ c.receive_each.new.nodes) (c.receive_round.ensures received parts.0)
    ∙ ap (λ (nodes : List NodeValue). step c.in-Some.node.now ∷ nodes) (c.receive_each.ensures received parts.1)
    ∙ sym (ap (λ (nodes : List NodeValue). map step nodes) c.in-Some.ensures.cases.0)
