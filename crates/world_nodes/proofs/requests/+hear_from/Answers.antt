use Rattle.std.proofs.Common.{ap, sym, ◌∙◌, List, ℕ}
use Rattle.guards_model.specs.Network.{have_of}
use Rattle.guards_nodes.specs.NodeStates.{NodeValue}
use Rattle.guards_nodes.specs.NodeCalls.{changed}
use Rattle.guards_world.specs.SlotSteps.{heard_if, after_requests}
use Rattle.world_nodes.proofs.Changes.{changed_twice}
use Rattle.world_nodes.proofs.requests.+hear_from.Goals as goal

pub returns : goal.returns
returns g t c =
    let got = g.A.Arrived.got c.args.arrived.now in
    let node = c.args.node.now in
    c.hear_from.ensures
    ∙ ap (λ (n : NodeValue). changed (after_requests (λ j. have_of (got j n.channel)) c.in-Some.rest.now) n)
    c.hear_one.ensures
    ∙ changed_twice (after_requests (λ j. have_of (got j node.channel)) c.in-Some.rest.now)
    (heard_if (have_of (got c.in-Some.from.now node.channel)) c.in-Some.from.now) node
    ∙ ap (λ (js : List ℕ). changed (after_requests (λ j. have_of (got j node.channel)) js) node)
    (sym c.in-Some.ensures.cases.0)
