use Rattle.std.proofs.Common.{◌≡◌, true, subst, rules}
use Rattle.guards_model.specs.Channels.{has}
use Rattle.guards_nodes.specs.NodeStates.{running}
use Rattle.channel_node.proofs.node.Node.source.Goals as goal

pub source-requires-clause-mine : goal.source-requires-clause-mine
source-requires-clause-mine c =
    let runs : c.args.self.now.state ≡ running c.in-Up.running = search rules in
    let same : c.args.self.now.channel ≡ c.self.inside.channel = search rules in
    subst (λ q. has c.in-Up.running.held.control.active q ≡ true) same (c.requires.mine c.in-Up.running runs)
