-- Words for the contracts of a node's calls: each is an equation on the node's value. This project's own.
use Rattle.std.specs.Prelude.{◌≡◌, ℕ, List, [], Some}
use Rattle.guards_model.specs.Channels.{Channel}
use Rattle.guards_model.specs.Missions.{MissionValue, cycle_writes, written_blocks}
use Rattle.guards_model.specs.Frames.{ItemValue}
use Rattle.guards_model.specs.Controls.{ClosedValue, closed_by}
use Rattle.guards_nodes.specs.NodeStates.{NodeValue, StateValue, running, returning, RunningValue, JoinerValue, DecidedValue}
use Rattle.guards_nodes.specs.NodeSteps.{Received, StandsFor, HasWorked, first_running_value, after_exchange, after_decision, plan_in, after_close}

-- the node of a channel before the first cycle
abbrev pub first_node : MissionValue → Channel → NodeValue
first_node M q = record { channel = q; rules = M.rules; state = running (first_running_value M.rules M.initial) }

abbrev pub IsRunning : NodeValue → Type 0
IsRunning node = (r : RunningValue) × (node.state ≡ running r)

-- ---- a node in another state

abbrev pub in_state : StateValue → NodeValue → NodeValue
in_state state node = record node { state = state }

abbrev pub on_running : (RunningValue → RunningValue) → StateValue → StateValue
on_running f (running r) = running (f r)
on_running f state = state

abbrev pub on_returning : (JoinerValue → JoinerValue) → StateValue → StateValue
on_returning f (returning j) = returning (f j)
on_returning f state = state

-- the node with its running part changed, and the one with its joining part changed
abbrev pub changed : (RunningValue → RunningValue) → NodeValue → NodeValue
changed f node = in_state (on_running f node.state) node

abbrev pub rejoined : (JoinerValue → JoinerValue) → NodeValue → NodeValue
rejoined f node = in_state (on_returning f node.state) node

-- ---- calls whose clause is about what was received

-- An exchange was received: where the node stood for some list with nothing of this round and sender yet, it is now
-- what stands for this list with these items.
abbrev pub HasReceived : ℕ → Channel → List ItemValue → NodeValue → NodeValue → Type 0
HasReceived round from items old new =
    (received : Received) → StandsFor old.state received → received round from ≡ [] →
    new ≡ changed (after_exchange received round from items) old

-- the channel decides from what it received
abbrev pub HasDecided : MissionValue → ℕ → NodeValue → NodeValue → Type 0
HasDecided M c old new =
    (received : Received) → StandsFor old.state received → new ≡ changed (after_decision M.rules c received) old

-- ---- calls that need what an earlier call of the cycle left

-- it worked, by a full history of some order
pub record DoesWork (M : MissionValue) (c : ℕ) (old new : NodeValue) : Type 0 where
  pub before : RunningValue
  pub after : RunningValue
  pub was : old.state ≡ running before
  pub is : new ≡ in_state (running after) old
  pub worked : HasWorked M.rules (cycle_writes M c) c before after

-- it closed the cycle, and answers who joined and what remains
pub record DoesClose (M : MissionValue) (c : ℕ) (old new : NodeValue) (closed : ClosedValue) : Type 0 where
  pub before : RunningValue
  pub decided : DecidedValue
  pub was : old.state ≡ running before
  pub had : before.progress.decided ≡ Some decided
  pub is : new ≡ changed (after_close M.rules (written_blocks M c) decided) old
  pub answer : closed ≡ closed_by M.rules.last (plan_in M.rules before.held) (written_blocks M c) before.held.control
