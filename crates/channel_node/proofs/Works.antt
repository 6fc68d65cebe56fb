-- What the work of a cycle leaves of a node.
use Rattle.std.proofs.Common.{◌≡◌, ℕ, refl}
use Rattle.guards_model.specs.Missions.{MissionValue, cycle_writes}
use Rattle.guards_nodes.specs.NodeStates.{NodeValue, running, RunningValue}
use Rattle.guards_nodes.specs.NodeSteps.{HasWorked}
use Rattle.guards_nodes.specs.NodeCalls.{DoesWork}

pub does_work : (M : MissionValue) (c : ℕ) (old : NodeValue) (part new : RunningValue) → old.state ≡ running part →
    HasWorked M.rules (cycle_writes M c) c part new →
    DoesWork M c old (record { channel = old.channel; rules = old.rules; state = running new })
does_work M c old part new was worked = record { before = part; after = new; was = was; is = refl; worked = worked }
