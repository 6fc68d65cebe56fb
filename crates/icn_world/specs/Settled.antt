-- What is known between the rounds of a cycle, and what they settle.
use Rattle.std.specs.Prelude.{◌≡◌, ℕ, true, List, ◌++◌, map, if◌then◌else◌}
use Rattle.guards_model.specs.declared.Slot.{Slot}
use Rattle.guards_model.specs.declared.Slot.TheVariants.{Round3, Tasks}
use Rattle.guards_model.specs.Slots.{slot_index, up_to, stage_after, stage_before}
use Rattle.guards_model.specs.Missions.{MissionValue}
use Rattle.guards_model.specs.Network.{Log}
use Rattle.guards_model.specs.Records.{transfer_of_pair}
use Rattle.guards_model.specs.Rounds.{Steps}
use Rattle.guards_runs.specs.Cycles.{Cycle, cycles_before, cycle_at}
use Rattle.guards_runs.specs.Due.{is_round, receivers}
use Rattle.guards_nodes.specs.NodeStates.{NodeValue}
use Rattle.guards_world.specs.NodeFacts.{received_through}
use Rattle.guards_world.specs.Worlds.{WorldValue, facts_in}
use Rattle.fault_script.specs.declared.disturbance.Disturbance.{Disturbance}
use Rattle.guards_world.specs.NodeLists.{Bodies, with_exchanges}
use Rattle.icn_world.specs.declared.rounds.Reconfiguration.{Reconfiguration}
use Rattle.icn_world.specs.Stages.{IsWithinCycle}

-- the slots before are done, and this one may be entered
pub record MayEnter (slot : Slot) (earlier current : Log) (steps : Steps) (w : WorldValue) (d : Disturbance) : Type
    0 where
  pub before : Slot
  pub soon : up_to before slot ≡ true
  pub stands : IsWithinCycle before (stage_before slot) (stage_before slot) earlier current steps w d

-- its frames go to the active channels
abbrev pub IsToActive : Slot → Type 0
IsToActive slot = (e : Cycle) → receivers e slot ≡ e.active

-- the nodes when what arrived in a round of cycle n was received, where there is such a round
abbrev pub nodes_received : MissionValue → Log → ℕ → ℕ → Bodies → List NodeValue → List NodeValue
nodes_received M L n round got nodes =
    let e : Cycle = cycle_at M L n in
    if is_round e round then map (with_exchanges round e.active got (received_through M (cycles_before M L n) e round))
    nodes else nodes

-- by the facts of cycle n these channels are removed, and this is the transfer that runs
pub record AreOfCycle (settled : Reconfiguration) (M : MissionValue) (L : Log) (n : ℕ) : Type 0 where
  pub removed : settled.removed ≡ (cycle_at M L n).removed
  pub transfer : transfer_of_pair settled.transfer ≡ (cycle_at M L n).transfer

-- the rounds are over, and the running channels have decided
pub record IsDecided (settled : Reconfiguration) (earlier current : Log) (steps : Steps) (w : WorldValue)
    (d : Disturbance) : Type 0 where
  pub stands : IsWithinCycle Round3 (stage_after Round3) (stage_after Round3) earlier current steps w d
  pub settled_are : AreOfCycle settled w.mission (earlier ++ current) w.done

-- and the tasks slot is entered, whose work is next
pub record IsSettled (settled : Reconfiguration) (earlier current : Log) (steps : Steps) (w : WorldValue)
    (d : Disturbance) : Type 0 where
  pub stands : IsWithinCycle Tasks (stage_after Tasks) (stage_before Tasks) earlier current steps w d
  pub removed : settled.removed ≡ (facts_in w (earlier ++ current)).removed
  pub transfer : transfer_of_pair settled.transfer ≡ (facts_in w (earlier ++ current)).transfer
