use Rattle.std.proofs.Common.{◌≡◌, ◌≤◌, length, sym, subst}
use Rattle.std.specs.Option.{option_copied}
use Rattle.guards_model.specs.Channels.{ChannelSet}
use Rattle.guards_nodes.specs.NodeStates.{ExchangeTreeValue}
use Rattle.guards_nodes.specs.NodeSteps.{with_items, tree_for}
use Rattle.oral_messages.specs.Received.{items_of_frame}
use Rattle.channel_node.specs.Trees.{seen_tree, IsTreeFor}
use Rattle.channel_node.proofs.TreeLevels.{put_tree}
use Rattle.channel_node.proofs.tree.RoundTree.put.Goals as goal

pub returns : goal.returns
returns c =
    λ received stands none.
    subst
    (λ (x : ExchangeTreeValue). seen_tree c.put.new.self
    ≡ tree_for (with_items c.args.round c.args.from (items_of_frame (option_copied c.args.frame)) received) x)
    c.self.view_is
    (put_tree c.self.inside.tree c.put.new.self received c.args.round c.args.from
    (items_of_frame (option_copied c.args.frame))
    (subst (λ (s : ChannelSet). length s ≤ 7) c.self.invariant.members c.self.invariant.few) c.put.ensures.same
    c.put.ensures.kept
    (subst (λ (x : ExchangeTreeValue). IsTreeFor received x) (sym c.self.view_is) stands) none)
