-- The value of a node's state.
use Rattle.guards_nodes.specs.NodeStates.{StateValue, running, fallen, resting, returning}
use Rattle.channel_node.specs.declared.node.State.{State}
use Rattle.channel_node.specs.declared.node.State.TheVariants.{Up, Down, Waiting, Joining}

abbrev pub state_value : State → StateValue
state_value (Up r) = running r
state_value Down = fallen
state_value Waiting = resting
state_value (Joining j) = returning j
