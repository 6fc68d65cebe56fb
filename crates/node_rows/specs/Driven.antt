-- How far the exchange of a node has come that is driven by hand.
use Rattle.std.specs.Prelude.{◌≡◌, ◌≤◌, ◌<◌, ℕ, [], Some}
use Rattle.guards_nodes.specs.NodeStates.{NodeValue, running, RunningValue, ExchangeTreeValue}
use Rattle.guards_nodes.specs.NodeSteps.{Received, tree_for}

-- it runs and its exchange has begun, and nothing was received yet of a channel from this one on in this round, nor in
-- a later one
pub record InRound (round from : ℕ) (node : NodeValue) : Type 0 where
  pub part : RunningValue
  pub tree : ExchangeTreeValue
  pub received : Received
  pub runs : node.state ≡ running part
  pub begun : part.progress.tree ≡ Some tree
  pub active_is : tree.active ≡ part.held.control.active
  pub me_is : tree.me ≡ node.channel
  pub stands : tree ≡ tree_for received tree
  pub later : (k j : ℕ) → round < k → received k j ≡ []
  pub rest : (j : ℕ) → from ≤ j → received round j ≡ []
