use Rattle.std.proofs.Common.{◌≡◌, Option, Some, sym, subst, refl}
use Rattle.std.specs.Option.{option_copied}
use Rattle.guards_nodes.specs.NodeStates.{ExchangeTreeValue, RunningValue}
use Rattle.guards_nodes.specs.NodeSteps.{TreeStandsFor, with_items, tree_for}
use Rattle.oral_messages.specs.Received.{items_of_frame}
use Rattle.channel_node.specs.Trees.{IsTreeFor}
use Rattle.channel_node.proofs.running.Running.receive.Goals as goal

pub returns-clause-state : goal.returns-clause-state
returns-clause-state c =
    λ received stands none.
    let there : c.self.inside.tree ≡ Some c.in-Some.tree = sym c.in-Some.ensures.value in
    let inside : TreeStandsFor c.self.inside.tree received =
    subst (λ (x : RunningValue). TreeStandsFor x.progress.tree received) (sym c.self.view_is) stands in
    let tree : IsTreeFor received c.in-Some.tree =
    subst (λ (o : Option ExchangeTreeValue). TreeStandsFor o received) there inside in
    let put : c.put.new.self ≡ tree_for
    (with_items c.args.round c.args.from (items_of_frame (option_copied c.args.frame)) received) c.in-Some.tree
    = c.put.ensures received tree none in
    rw (← c.self.view_is, there, put) refl
