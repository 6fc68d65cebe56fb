-- A cycle under way: what entries of later slots do not change.
use Rattle.std.specs.Prelude.{true, ◌≡◌, ℕ, ◌≤◌, ◌<◌, ◌⊎◌, ◌++◌, ◌∷◌, List}
use Rattle.std.specs.List.{AllByRecursion}
use Rattle.guards_model.specs.declared.Slot.{Slot}
use Rattle.guards_model.specs.declared.Slot.TheVariants.{Round3, Vote, Sweep, Final}
use Rattle.guards_model.specs.Slots.{slot_index, up_to}
use Rattle.guards_model.specs.Channels.{Channel, has}
use Rattle.guards_model.specs.Missions.{MissionValue, format_of}
use Rattle.guards_model.specs.Frames.{in_range}
use Rattle.guards_model.specs.Rounds.{AreWritesBefore}
use Rattle.guards_model.specs.Network.{EntryValue, Log, suits}
use Rattle.guards_runs.specs.Cycles.{Past, Cycle, cycle_from, this_cycle, received_body}
use Rattle.guards_runs.specs.Disturbed.{halts}
use Rattle.guards_runs.specs.Due.{carries_frames, is_sender, receivers, slot_carries, owed, frame_on, due_origin, control_after}
use Rattle.guards_runs.specs.Restoration.{sweeps_at, finals_at}

-- each entry is of cycle c in the slot at this place or a later one, or of a later cycle
abbrev pub AreFromPlace : ℕ → ℕ → Log → Type 0
AreFromPlace c place entries =
    AllByRecursion (λ (e : EntryValue). (c < e.cycle) ⊎ ((e.cycle ≡ c) × (place ≤ slot_index e.slot))) entries

-- A frame is owed by what arrived in earlier slots: entries of its own slot and of later ones change neither who sends
-- in the slot to whom, nor what is sent.
pub record FramesStay (M : MissionValue) (entries new : Log) (past : Past) (slot : Slot) : Type 0 where
  pub carries : slot_carries (this_cycle past) (cycle_from M (entries ++ new) past) slot
      ≡ slot_carries (this_cycle past) (cycle_from M entries past) slot
  pub frames : (from to : Channel) (places : List ℕ) →
      owed M past (cycle_from M (entries ++ new) past) slot from to places
      ≡ owed M past (cycle_from M entries past) slot from to places
  pub origins : slot ≡ Sweep → (from : Channel) →
      due_origin M past (cycle_from M (entries ++ new) past) from
      ≡ due_origin M past (cycle_from M entries past) from

-- whether a slot stops the run is not changed by entries of later slots
abbrev pub StopStays : MissionValue → Log → Log → Past → Slot → Type 0
StopStays M entries new past slot =
    halts (this_cycle past) (cycle_from M (entries ++ new) past) slot
    ≡ halts (this_cycle past) (cycle_from M entries past) slot

-- A frame is sent in a slot of cycle e, after the past: the slot carries frames, and who sends it and who receives it
-- do so there. The copies of a sweep frame fell at places that some order of the steps gives.
pub record IsSent (M : MissionValue) (past : Past) (e : Cycle) (slot : Slot) (from to : ℕ)
    (places : List ℕ) : Type 0 where
  pub carries : carries_frames e slot ≡ true
  pub sender : from < 7
  pub sends : is_sender e slot from ≡ true
  pub receives : has (receivers e slot) to ≡ true
  pub in_order : slot ≡ Sweep → AreWritesBefore (due_origin M past e from) places

-- What is owed has a spelling, and suits its slot and receiver: so what arrives as it was sent counts.
pub record Counts (M : MissionValue) (past : Past) (e : Cycle) (slot : Slot) (from to : ℕ)
    (places : List ℕ) : Type 0 where
  pub spelled : in_range
      (frame_on M (record { cycle = this_cycle past; slot = slot; from = from; to = to })
      (owed M past e slot from to places)) ≡ true
  pub suiting : suits (format_of M) slot to (owed M past e slot from to places) ≡ true

-- What is known when a slot of the cycle is over is not changed by entries of later slots: what was received, and what
-- rests on it.
pub record FactsStay (M : MissionValue) (entries new : Log) (past : Past) (slot : Slot) : Type 0 where
  pub received : (s : Slot) → up_to s slot ≡ true → (from to : ℕ) →
      received_body M (entries ++ new) (this_cycle past) s from to
      ≡ received_body M entries (this_cycle past) s from to
  pub heard : (cycle_from M (entries ++ new) past).request_codes ≡ (cycle_from M entries past).request_codes
  pub agreed : up_to Round3 slot ≡ true →
      (cycle_from M (entries ++ new) past).agreement ≡ (cycle_from M entries past).agreement
  pub decided : up_to Round3 slot ≡ true →
      (cycle_from M (entries ++ new) past).decision ≡ (cycle_from M entries past).decision
  pub worked : up_to Round3 slot ≡ true →
      (cycle_from M (entries ++ new) past).contexts_after ≡ (cycle_from M entries past).contexts_after
  pub closed : up_to Round3 slot ≡ true →
      control_after M (cycle_from M (entries ++ new) past ∷ past)
      ≡ control_after M (cycle_from M entries past ∷ past)
  pub voted : up_to Vote slot ≡ true →
      (cycle_from M (entries ++ new) past).voted ≡ (cycle_from M entries past).voted
  pub accused : up_to Vote slot ≡ true →
      (cycle_from M (entries ++ new) past).accusations ≡ (cycle_from M entries past).accusations
  pub filled : up_to Sweep slot ≡ true → (q : Channel) →
      sweeps_at M past (cycle_from M (entries ++ new) past) q ≡ sweeps_at M past (cycle_from M entries past) q
  pub taken : up_to Final slot ≡ true → (q : Channel) →
      finals_at M past (cycle_from M (entries ++ new) past) q ≡ finals_at M past (cycle_from M entries past) q
