use Rattle.std.proofs.Common.{◌≡◌, ◌+◌, ◌≤◌, length, sym, subst, ap, arith, Some}
use Rattle.guards_model.specs.Channels.{ChannelSet, tolerated_faults}
use Rattle.guards_model.specs.Frames.{exchange_body}
use Rattle.guards_nodes.specs.NodeStates.{ExchangeTreeValue}
use Rattle.guards_nodes.specs.NodeFrames.{exchange_in}
use Rattle.channel_node.specs.Trees.{IsTreeFor}
use Rattle.channel_node.proofs.TreeLevels.{exchange_told}
use Rattle.channel_node.proofs.tree.RoundTree.exchange.Goals as goal

pub returns-in_ok-relay : goal.returns-in_ok-relay
returns-in_ok-relay c =
    λ received stands.
    let few : length c.self.inside.tree.members ≤ 7 =
    subst (λ (s : ChannelSet). length s ≤ 7) c.self.invariant.members c.self.invariant.few in
    let same : length c.self.inside.active ≡ length c.self.inside.tree.members =
    ap (λ (s : ChannelSet). length s) c.self.invariant.members in
    let high : c.args.round ≤ tolerated_faults c.self.inside.tree.members + 1 =
    omega (arith, same, c.count.ensures.value, c.saturating_sub.ensures, c.if-round-saturating_sub.true) in
    subst
    (λ (x : ExchangeTreeValue). Some (exchange_body c.in_ok-relay.field-0) ≡ exchange_in received c.args.round x)
    c.self.view_is
    (exchange_told c.self.inside.tree received c.args.round c.in_ok-relay.field-0 few c.if-round-ge1.true high
    c.in_ok-relay.ensures.round c.in_ok-relay.ensures.items
    (subst (λ (x : ExchangeTreeValue). IsTreeFor received x) (sym c.self.view_is) stands))
