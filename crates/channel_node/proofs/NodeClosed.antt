-- What closing a cycle leaves of a node.
use Rattle.std.proofs.Common.{◌≡◌, ℕ, Some, ap}
use Rattle.guards_model.specs.Missions.{MissionValue, written_blocks}
use Rattle.guards_model.specs.Controls.{ClosedValue, closed_by}
use Rattle.guards_nodes.specs.NodeStates.{NodeValue, running, RunningValue, DecidedValue}
use Rattle.guards_nodes.specs.NodeSteps.{plan_in, after_close}
use Rattle.guards_nodes.specs.NodeCalls.{DoesClose}

pub closes : (M : MissionValue) (c : ℕ) (old : NodeValue) (part new : RunningValue) (decided : DecidedValue)
    (closed : ClosedValue) →
    old.state ≡ running part → part.progress.decided ≡ Some decided →
    new ≡ after_close M.rules (written_blocks M c) decided part →
    closed ≡ closed_by M.rules.last (plan_in M.rules part.held) (written_blocks M c) part.held.control →
    DoesClose M c old (record { channel = old.channel; rules = old.rules; state = running new }) closed
closes M c old part new decided closed was had is answer =
    record {
      before = part;
      decided = decided;
      was = was;
      had = had;
      is = rw was (ap (λ x. record { channel = old.channel; rules = old.rules; state = running x }) is);
      answer = answer;
    }
