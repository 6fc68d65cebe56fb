-- The line of a channel as the code keeps it: with 0 and none in the places past the mission's width and outputs.
use Rattle.std.specs.Prelude.{ℕ, pos, ◌-◌, ◌++◌, List, length, None, replicate}
use Rattle.guards_model.specs.Channels.{Channel}
use Rattle.guards_model.specs.Voting.{Ballots}
use Rattle.guards_model.specs.Texts.{LineValue}
use Rattle.guards_nodes.specs.NodeStates.{DecidedValue, RunningValue}
use Rattle.guards_nodes.specs.NodeSteps.{voted_by}

abbrev pub whole_line : Channel → List (ℕ × ℕ) → RunningValue → DecidedValue → Ballots → LineValue
whole_line me outputs r d ballots =
    record {
      channel = me;
      inputs = d.inputs ++ replicate (4 - length d.inputs) (pos 0);
      votes = voted_by me outputs ballots r ++ replicate (8 - length outputs) None;
      judged = d.judged;
      counts = r.control.counts;
    }
