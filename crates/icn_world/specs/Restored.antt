-- What the sweep, the final and the switch slot leave of a cycle.
use Rattle.std.specs.Prelude.{◌≡◌, ◌<◌, ℕ, true, ◌∷◌, ◌++◌, List, Option}
use Rattle.guards_model.specs.declared.Slot.TheVariants.{Vote, Sweep, Final, Switch}
use Rattle.guards_model.specs.Channels.{Channel, ChannelSet, has, by_channel}
use Rattle.guards_model.specs.Missions.{MissionValue}
use Rattle.guards_model.specs.Modes.{is_joining}
use Rattle.guards_model.specs.Network.{Log, switchboard}
use Rattle.guards_model.specs.Rounds.{Steps}
use Rattle.guards_model.specs.Switchboard.{set_of}
use Rattle.guards_model.specs.Slots.{stage_after}
use Rattle.guards_runs.specs.Cycles.{mode_in, is_whole, received_body, cycle_at}
use Rattle.guards_runs.specs.ControlFacts.{closed_of}
use Rattle.guards_runs.specs.Due.{targets_of}
use Rattle.guards_runs.specs.Report.{remaining_in}
use Rattle.guards_world.specs.Worlds.{WorldValue, past_in, facts_in}
use Rattle.guards_world.specs.InCycle.{node_in}
use Rattle.channel_node.specs.Closing.{closed_value}
use Rattle.control_state.specs.declared.control.Closed.{Closed}
use Rattle.fault_script.specs.declared.disturbance.Disturbance.{Disturbance}
use Rattle.guards_world.specs.NodeLists.{TookContent}
use Rattle.icn_world.specs.Stages.{IsWithinCycle}
use Rattle.icn_world.specs.declared.restoring.SweepResult.{SweepResult}

-- the sets of the switch frames that count at the switchboard in cycle n, by their senders
abbrev pub sets_at : MissionValue → Log → ℕ → List (Option ChannelSet)
sets_at M L n = by_channel (λ j. set_of (received_body M (cycle_at M L n).entries n Switch j switchboard))

-- these have the joining channels of a slot that took a content, where so many slots are handed over, and no others
abbrev pub HaveTaken : ChannelSet → MissionValue → Log → ℕ → Steps → Type 0
HaveTaken taken M L n steps = (q : Channel) → q < 7 →
    TookContent taken (node_in M L n steps Final (stage_after Final) q)

-- the vote is over, and the running transfer has these targets
pub record MayRestore (targets : ChannelSet) (earlier current : Log) (steps : Steps) (w : WorldValue)
    (d : Disturbance) : Type 0 where
  pub stands : IsWithinCycle Vote (stage_after Vote) (stage_after Vote) earlier current steps w d
  pub targets_are : targets ≡ targets_of (facts_in w (earlier ++ current)).transfer

-- the sweep slot is over, and the cycle is closed
pub record HasClosed (closed : Closed) (earlier current : Log) (steps : Steps) (w : WorldValue) (d : Disturbance) : Type
    0 where
  pub stands : IsWithinCycle Sweep (stage_after Sweep) (stage_after Sweep) earlier current steps w d
  pub closed_is : closed_value closed ≡ closed_of (facts_in w (earlier ++ current))

-- the sweep slot is over, and these are declared joined
pub record MayTakeContent (joined : ChannelSet) (earlier current : Log) (steps : Steps) (w : WorldValue)
    (d : Disturbance) : Type 0 where
  pub stands : IsWithinCycle Sweep (stage_after Sweep) (stage_after Sweep) earlier current steps w d
  pub joined_are : joined ≡ (facts_in w (earlier ++ current)).joined

-- the final slot is over, and these took a content
pub record IsTaken (taken : ChannelSet) (earlier current : Log) (steps : Steps) (w : WorldValue)
    (d : Disturbance) : Type 0 where
  pub stands : IsWithinCycle Final (stage_after Final) (stage_after Final) earlier current steps w d
  pub taken_are : HaveTaken taken w.mission (earlier ++ current) w.done steps

-- the switch slot is over, and these sets were sent to the switchboard
pub record IsSwitched (sent : List (Option ChannelSet)) (earlier current : Log) (steps : Steps) (w : WorldValue)
    (d : Disturbance) : Type 0 where
  pub stands : IsWithinCycle Switch (stage_after Switch) (stage_after Switch) earlier current steps w d
  pub sent_are : sent ≡ sets_at w.mission (earlier ++ current) w.done

-- the three slots are over
pub record IsRestored (r : SweepResult) (earlier current : Log) (steps : Steps) (w : WorldValue)
    (d : Disturbance) : Type 0 where
  pub stands : IsWithinCycle Switch (stage_after Switch) (stage_after Switch) earlier current steps w d
  pub joined_are : r.joined ≡ (facts_in w (earlier ++ current)).joined
  pub remaining_are : r.remaining ≡ remaining_in (facts_in w (earlier ++ current))
  pub taken_are : (q : Channel) → q < 7 → is_joining (mode_in (facts_in w (earlier ++ current)) q Switch) ≡ true →
      has r.taken q ≡ is_whole q (facts_in w (earlier ++ current) ∷ past_in w (earlier ++ current))
  pub sent_are : r.sent ≡ sets_at w.mission (earlier ++ current) w.done
