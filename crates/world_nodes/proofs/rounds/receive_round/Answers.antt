use Rattle.std.proofs.Common.{List, ℕ, ap, ◌∙◌}
use Rattle.guards_model.specs.Channels.{ChannelSet}
use Rattle.guards_model.specs.Frames.{is_distinct}
use Rattle.guards_model.specs.Network.{items_of}
use Rattle.guards_nodes.specs.NodeCalls.{changed}
use Rattle.guards_world.specs.NodeLists.{after_exchanges}
use Rattle.world_nodes.proofs.Exchanges.{may_take_by, others_are, every_is_distinct}
use Rattle.world_nodes.proofs.rounds.receive_round.Goals as goal

pub receive_from-requires-clause-distinct : goal.receive_from-requires-clause-distinct
receive_from-requires-clause-distinct g c =
    ap (λ (cs : List ℕ). is_distinct cs) c.every_channel.ensures ∙ every_is_distinct

pub receive_from-requires-clause-may : goal.receive_from-requires-clause-may
receive_from-requires-clause-may g c =
    let node = c.args.node.now in (
      c.requires.may.0 node.channel,
      may_take_by c.args.round c.args.members c.without-others.result c.every_channel.result c.channel.result
          c.requires.may.0 node
          c.channel.ensures c.without-others.ensures c.every_channel.ensures c.requires.may.1,
    )

pub returns : goal.returns
returns g c = λ received may.
    let got = g.A.Arrived.got c.args.arrived.now in
    let node = c.args.node.now in
    c.receive_from.ensures (received node.channel)
    (may_take_by c.args.round c.args.members c.without-others.result c.every_channel.result c.channel.result received
    node
    c.channel.ensures c.without-others.ensures c.every_channel.ensures may)
    ∙ ap (λ (senders : ChannelSet).
    changed (after_exchanges c.args.round (λ j. items_of (got j node.channel)) (received node.channel) senders)
    node)
    (others_are c.args.members c.without-others.result c.every_channel.result c.channel.result node.channel
    c.flags.ensures.members c.every_channel.ensures c.without-others.ensures c.channel.ensures)
