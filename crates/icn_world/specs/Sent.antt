-- What the world sends in a slot: the frames of its nodes, or the first few of them.
use Rattle.std.specs.Prelude.{◌≡◌, ℕ, List, ◌++◌, length, take, Result, Ok, Err}
use Rattle.std.specs.List.{AllZip}
use Rattle.guards_model.specs.declared.Slot.{Slot}
use Rattle.guards_model.specs.Slots.{slot_index, stage_before}
use Rattle.guards_model.specs.BusRules.{RuleValue}
use Rattle.guards_model.specs.Network.{EntryValue, Log, BusValue, TrafficValue}
use Rattle.guards_model.specs.Rounds.{Steps}
use Rattle.guards_world.specs.NodeFacts.{received_through}
use Rattle.guards_world.specs.Worlds.{WorldValue, past_in, facts_in}
use Rattle.guards_world.specs.WorldCycle.{Carries}
use Rattle.guards_world.specs.Passing.{world_carried}
use Rattle.guards_world.specs.NodeLists.{AllReceived}
use Rattle.guards_world.specs.SlotSends.{IsEntryOf, all_sends}
use Rattle.fault_script.specs.declared.disturbance.Disturbance.{Disturbance}
use Rattle.icn_world.specs.Stages.{MayCarry}

-- what each node received in the slots before
abbrev pub received_in : Log → Slot → WorldValue → AllReceived
received_in all slot w q = received_through w.mission (past_in w all) (facts_in w all) (stage_before slot) q

-- one entry for each frame that is sent in the slot, and for the first few of them
abbrev pub AreAllSent : Log → Log → Slot → List ℕ → WorldValue → Log → Type 0
AreAllSent earlier current slot to w new =
    AllZip IsEntryOf (all_sends w.mission w.done slot to (received_in (earlier ++ current) slot w) w.nodes) new

abbrev pub AreFewSentBy : Log → Log → Slot → List ℕ → ℕ → WorldValue → Log → Type 0
AreFewSentBy earlier current slot to few w new =
    AllZip IsEntryOf (take few (all_sends w.mission w.done slot to (received_in (earlier ++ current) slot w) w.nodes))
    new

-- by the answer, the entries are those of all frames, and those of the traffic, or those of the first few
abbrev pub AreSentBy : {E : Type 0} → Slot → List ℕ → Log → Result TrafficValue E → WorldValue → Log → Log → Type 0
AreSentBy slot to entries (Ok traffic) w earlier current =
    (traffic ≡ record { cycle = w.done; slot = slot; entries = entries }) × AreAllSent earlier current slot to w entries
AreSentBy slot to entries (Err error) w earlier current = (few : ℕ) × AreFewSentBy earlier current slot to few w entries

-- These entries were carried and counted.
pub record HasSent {E : Type 0} (may : List RuleValue → EntryValue → Type 0) (slot : Slot) (to : List ℕ)
    (result : Result TrafficValue E)
    (old new : WorldValue) (bus bus_after : BusValue) : Type 0 where
  pub entries : Log
  pub carries : Carries may bus bus_after entries
  pub world : new ≡ world_carried (length entries) old
  pub sent : (earlier current : Log) (steps : Steps) (d : Disturbance) → MayCarry slot to earlier current steps old d →
      AreSentBy slot to entries result old earlier current
