-- What a part of a cycle does: from what holds before it to what holds after it, to a stop, or to want of memory.
-- This project's own.
use Rattle.std.specs.Prelude.{◌≡◌, ◌<◌, ℕ, suc, ◌+◌, true, List, [], ◌++◌, length, Some, None, Result, Ok, Err}
use Rattle.std.specs.List.{list_any}
use Rattle.guards_model.specs.declared.Slot.{Slot}
use Rattle.guards_model.specs.declared.Slot.TheVariants.{Tasks, Switch}
use Rattle.guards_model.specs.Slots.{slot_index, on_bus, stage_after, stage_before}
use Rattle.guards_model.specs.Channels.{Channel, has}
use Rattle.guards_model.specs.BusRules.{RuleValue}
use Rattle.guards_model.specs.Network.{EntryValue, Log, BusValue}
use Rattle.guards_model.specs.Rounds.{Steps}
use Rattle.guards_model.specs.Texts.{StopValue}
use Rattle.guards_runs.specs.Disturbed.{is_charge, stop_in}
use Rattle.guards_runs.specs.Due.{receivers}
use Rattle.guards_world.specs.Worlds.{WorldValue, HaltValue, disturbed, no_memory, StandsForWorld, past_in, facts_in}
use Rattle.guards_world.specs.InCycle.{InCycle}
use Rattle.guards_world.specs.WorldCycle.{Carries, AreFull}
use Rattle.guards_world.specs.Passing.{IsStopIn}
use Rattle.world_laws.specs.Fronts.{IsRunFront}
use Rattle.slot_traffic.specs.Pieces.{ArrivedValue}
use Rattle.icn_world.specs.declared.world.Halt.{Halt}
use Rattle.icn_world.specs.Halts.{halt_value}
use Rattle.guards_world.specs.Arrivals.{AreArrivals}
use Rattle.world_traffic.specs.Reading.{got_of}
use Rattle.fault_script.specs.declared.disturbance.Disturbance.{Disturbance}

-- The world within a cycle, as `InCycle` says. Where its tasks slot is handed over, the steps of all who worked are
-- full. The disturbance has the active channels, and charges just those of whom a piece was not delivered as sent.
-- `earlier` has the entries of the earlier cycles, and `current` those of this one.
pub record IsWithinCycle (slot : Slot) (carried handed : ℕ) (earlier current : Log) (steps : Steps) (w : WorldValue)
    (d : Disturbance) : Type 0 where
  pub inside : InCycle w.mission earlier current steps slot carried handed w
  pub full : slot_index Tasks < handed →
      AreFull w.mission (past_in w (earlier ++ current)) (facts_in w (earlier ++ current)) steps
  pub active : d.active ≡ (facts_in w (earlier ++ current)).active
  pub charged : (q : Channel) → q < 7 → has d.charged q ≡ list_any (is_charge w.done Switch q) current

-- the run stops in a slot of the cycle, with this stop
pub record HaltsIn (earlier current : Log) (steps : Steps) (stop : StopValue) (w : WorldValue) : Type 0 where
  pub stops : IsStopIn w.mission earlier current w.done steps stop.slot
  pub stop_is : stop_in w.done (facts_in w (earlier ++ current)) ≡ Some stop
  pub full : slot_index Tasks < slot_index stop.slot →
      AreFull w.mission (past_in w (earlier ++ current)) (facts_in w (earlier ++ current)) steps

-- what holds of the earlier entries, those of the cycle so far, the steps, the world and the disturbance
abbrev pub Condition : Type 1
Condition = Log → Log → Steps → WorldValue → Disturbance → Type 0

-- a halt of this cycle: the run stops, or what was carried is a front of the run's due entries, which end with the stop
abbrev pub EndsCycle : HaltValue → Log → Log → Steps → WorldValue → Type 0
EndsCycle (disturbed stop) earlier current steps w = HaltsIn earlier current steps stop w
EndsCycle no_memory earlier current steps w = IsRunFront w.mission earlier current w.done

abbrev pub Reaches : {A : Type 0} → (A → Condition) → Result A Halt → Condition
Reaches Q (Ok x) earlier current steps w d = Q x earlier current steps w d
Reaches Q (Err halt) earlier current steps w d = EndsCycle (halt_value halt) earlier current steps w

-- The part carried these entries. Whatever log, steps and entries so far the condition P held for, with the new entries
-- Q holds, the run stops, or what was carried is a front of the run's due entries.
pub record PassesPart {A : Type 0} (may : List RuleValue → EntryValue → Type 0) (P : Condition) (Q : A → Condition)
    (result : Result A Halt) (old new : WorldValue) (before after : Disturbance) (bus bus_after : BusValue) : Type
    0 where
  pub entries : Log
  pub carries : Carries may bus bus_after entries
  pub mission : new.mission ≡ old.mission
  pub done : new.done ≡ old.done
  pub count : new.carried ≡ old.carried + length entries
  pub ends : (earlier current : Log) (steps : Steps) → P earlier current steps old before →
      Reaches Q result earlier (current ++ entries) steps new after

-- ---- the conditions between the parts of a cycle

-- the log stands for the world, which has a cycle left, and nothing of it is done
pub record IsAtStart (earlier current : Log) (steps : Steps) (w : WorldValue) (d : Disturbance) : Type 0 where
  pub stands : StandsForWorld w earlier
  pub nothing : current ≡ []
  pub below : w.done < w.mission.cycles
  pub unspent : w.spent ≡ None
  pub active : d.active ≡ w.switches
  pub charged : d.charged ≡ []

-- the world is in a slot that may be carried to these receivers
pub record MayCarry (slot : Slot) (to : List ℕ) (earlier current : Log) (steps : Steps) (w : WorldValue)
    (d : Disturbance) : Type 0 where
  pub on : on_bus slot ≡ true
  pub stands : IsWithinCycle slot (stage_before slot) (stage_before slot) earlier current steps w d
  pub receivers_are : receivers (facts_in w (earlier ++ current)) slot ≡ to

-- the slot was carried, and this arrived
pub record HasArrived (slot : Slot) (arrived : ArrivedValue) (earlier current : Log) (steps : Steps) (w : WorldValue)
    (d : Disturbance) : Type 0 where
  pub stands : IsWithinCycle slot (stage_after slot) (stage_before slot) earlier current steps w d
  pub arrivals : AreArrivals w.mission (earlier ++ current) w.done slot (got_of arrived)
