use Rattle.std.proofs.Common.{◌≡◌, map}
use Rattle.guards_model.specs.Channels.{numbers_below}
use Rattle.guards_nodes.specs.NodeCalls.{first_node}
use Rattle.world_nodes.proofs.nodes.Nodes.first.Given as goal

abbrev pub invariant-loop-number : goal.invariant-loop-number
invariant-loop-number l = l.list.items ≡ map (first_node l.fn.mission) (numbers_below l.number)
