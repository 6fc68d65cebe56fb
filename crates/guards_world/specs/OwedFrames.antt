-- The frame that a node owes in a slot to a receiver, whatever the slot is. This project's own.
use Rattle.std.specs.Prelude.{ℕ, Bool, true, ◌&&◌, Option, Some, None, if◌then◌else◌}
use Rattle.guards_model.specs.declared.Slot.{Slot}
use Rattle.guards_model.specs.declared.Slot.TheVariants.{Request, Round1, Round2, Round3, Tasks, Vote, Sweep, Final, Switch, Output}
use Rattle.guards_model.specs.Channels.{Channel, has}
use Rattle.guards_model.specs.Missions.{MissionValue}
use Rattle.guards_model.specs.Frames.{BodyValue}
use Rattle.guards_model.specs.Rounds.{Steps, steps_of, writes_before}
use Rattle.guards_runs.specs.Cycles.{Past, Cycle}
use Rattle.guards_runs.specs.Due.{carries_frames, is_sender, targets_of, owed}
use Rattle.guards_nodes.specs.NodeStates.{StateValue}
use Rattle.guards_nodes.specs.NodeSteps.{Received}
use Rattle.guards_nodes.specs.NodeFrames.{request_of, relay_of, vote_of_outputs, sweep_of, final_of, switch_of}

-- by its state and what it received
abbrev pub body_of : MissionValue → Received → Slot → ℕ → StateValue → Option BodyValue
body_of M received Request to state = request_of state
body_of M received Round1 to state = relay_of received 1 state
body_of M received Round2 to state = relay_of received 2 state
body_of M received Round3 to state = relay_of received 3 state
body_of M received Tasks to state = None
body_of M received Vote to state = vote_of_outputs M.outputs state
body_of M received Sweep to state = sweep_of to state
body_of M received Final to state = final_of M.rules to state
body_of M received Switch to state = switch_of state
body_of M received Output to state = None

-- the frames of the sweep and final slots have a target, and those of the others are the same for every receiver
abbrev pub is_target : Cycle → Slot → ℕ → Bool
is_target e Sweep to = has (targets_of e.transfer) to
is_target e Final to = has e.joined to
is_target e Request to = true
is_target e Round1 to = true
is_target e Round2 to = true
is_target e Round3 to = true
is_target e Tasks to = true
is_target e Vote to = true
is_target e Switch to = true
is_target e Output to = true

-- by the facts: none where the slot has no frames, the channel does not send in it, or the receiver is no target
abbrev pub body_due : MissionValue → Past → Cycle → Steps → Slot → Channel → ℕ → Option BodyValue
body_due M past e steps slot q to =
    if carries_frames e slot && (is_sender e slot q && is_target e slot to)
    then Some (owed M past e slot q to (writes_before (steps_of steps q)))
    else None
