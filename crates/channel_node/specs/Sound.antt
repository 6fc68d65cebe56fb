-- What is true of every node: its rules are those of a mission, and its contexts have as many blocks as these say.
use Rattle.std.specs.Prelude.{◌≡◌, ◌<◌, ℕ, Bool, true, ◌==◌, length}
use Rattle.guards_model.specs.Channels.{Channel}
use Rattle.guards_model.specs.Missions.{RulesValue, is_rules}
use Rattle.guards_nodes.specs.NodeStates.{StateValue, running, fallen, resting, returning}

abbrev pub state_fits : ℕ → StateValue → Bool
state_fits blocks (running r) = length r.context == blocks
state_fits blocks fallen = true
state_fits blocks resting = true
state_fits blocks (returning j) = length j.replica.blocks == blocks

pub record IsNodeInRange (channel : Channel) (rules : RulesValue) (state : StateValue) : Type 0 where
  pub rules_are : is_rules rules ≡ true
  pub channel_is : channel < rules.channels
  pub fits : state_fits rules.blocks state ≡ true
