use Rattle.std.proofs.Common.{◌≡◌, ◌≤◌, ◌∙◌, true, length, sym, subst, ap}
use Rattle.guards_model.specs.Channels.{ChannelSet, has}
use Rattle.guards_nodes.specs.NodeStates.{ExchangeTreeValue}
use Rattle.channel_node.specs.Trees.{IsTreeFor, word_from}
use Rattle.channel_node.proofs.TreeLevels.{agreed_told}
use Rattle.channel_node.proofs.tree.RoundTree.agreed_word.Goals as goal

pub returns-then-has-clause-agreed : goal.returns-then-has-clause-agreed
returns-then-has-clause-agreed c =
    λ received stands.
    let few : length c.self.inside.tree.members ≤ 7 =
    subst (λ (s : ChannelSet). length s ≤ 7) c.self.invariant.members c.self.invariant.few in
    let member : has c.self.inside.tree.members c.args.source ≡ true =
    ap (λ (s : ChannelSet). has s c.args.source) (sym c.self.invariant.members) ∙ sym c.has.ensures ∙ c.if-has.true in
    subst
    (λ (x : ExchangeTreeValue). c.resolve.result ≡ word_from received x c.args.source)
    c.self.view_is
    (agreed_told c.self.inside.tree received c.args.source c.resolve.result few member c.resolve.ensures
    (subst (λ (x : ExchangeTreeValue). IsTreeFor received x) (sym c.self.view_is) stands))
