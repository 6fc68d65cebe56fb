-- What the work of the tasks slot does to each node, and what is told of it. This project's own.
use Rattle.std.specs.Prelude.{◌≡◌, ℕ, Option, None, option_map}
use Rattle.guards_model.specs.Missions.{MissionValue}
use Rattle.guards_model.specs.Texts.{TraceValue}
use Rattle.guards_nodes.specs.NodeStates.{NodeValue, running, RunningValue, running_or_none}
use Rattle.guards_nodes.specs.NodeCalls.{DoesWork}
use Rattle.guards_world.specs.WorldCycle.{worked_of}

-- a running node does its work of the cycle, by a full history of some order; another one stays as it is
pub record WorksOrStays (M : MissionValue) (c : ℕ) (old new : NodeValue) : Type 0 where
  pub works : (r : RunningValue) → old.state ≡ running r → DoesWork M c old new
  pub stays : running_or_none old.state ≡ None → new ≡ old

-- the round of a node that has worked
abbrev pub trace_of : NodeValue → Option TraceValue
trace_of node = option_map (λ w. record { channel = node.channel; steps = w.steps }) (worked_of node)
