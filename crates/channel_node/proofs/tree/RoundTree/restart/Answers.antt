use Rattle.std.proofs.Common.{◌≡◌, subst}
use Rattle.guards_base.proofs.EachChannel.{few_members}
use Rattle.guards_nodes.specs.NodeStates.{ExchangeTreeValue}
use Rattle.guards_nodes.specs.NodeSteps.{nothing_received, tree_of}
use Rattle.channel_node.specs.Trees.{seen_tree}
use Rattle.channel_node.proofs.TreeLevels.{begun_tree}
use Rattle.channel_node.proofs.tree.RoundTree.restart.Goals as goal

pub returns : goal.returns
returns c =
    subst
    (λ (x : ExchangeTreeValue). seen_tree c.restart.new.self
    ≡ tree_of c.args.active x.me x.width c.args.own nothing_received)
    c.self.view_is
    (begun_tree c.restart.new.self c.args.active c.self.inside.tree.me c.self.inside.tree.width c.args.own
    (few_members c.args.active c.flags.ensures.members) c.restart.ensures)
