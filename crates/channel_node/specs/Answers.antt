-- What the calls of a node answer.
use Rattle.std.specs.Prelude.{◌≡◌, Some}
use Rattle.guards_model.specs.declared.Mode.{Mode}
use Rattle.guards_model.specs.declared.Mode.TheVariants as mode
use Rattle.guards_nodes.specs.NodeStates.{StateValue, running, fallen, resting, returning, RunningValue, ExchangeTreeValue, DecidedValue}

-- the mode of a state
abbrev pub mode_of_state : StateValue → Mode
mode_of_state (running r) = mode.Up
mode_of_state fallen = mode.Down
mode_of_state resting = mode.Waiting
mode_of_state (returning j) = mode.Joining

-- it runs, and its exchange has begun
pub record HasTree (state : StateValue) : Type 0 where
  pub part : RunningValue
  pub tree : ExchangeTreeValue
  pub runs : state ≡ running part
  pub begun : part.progress.tree ≡ Some tree

-- it runs, and has decided
pub record HasDecidedState (state : StateValue) : Type 0 where
  pub part : RunningValue
  pub decided : DecidedValue
  pub runs : state ≡ running part
  pub had : part.progress.decided ≡ Some decided
