-- A part of a cycle that carries nothing: the world stays within the cycle, and may be carried in the slot that it
-- entered.
use Rattle.std.proofs.Common.{◌≡◌, ℕ, ◌<◌, true, List, ◌++◌, sym, subst}
use Rattle.std.specs.List.{list_any}
use Rattle.guards_model.specs.declared.Slot.{Slot}
use Rattle.guards_model.specs.declared.Slot.TheVariants.{Tasks, Switch}
use Rattle.guards_model.specs.Slots.{slot_index, up_to, on_bus, stage_before}
use Rattle.guards_model.specs.Channels.{Channel, has}
use Rattle.guards_model.specs.Missions.{MissionValue}
use Rattle.guards_model.specs.Network.{Log}
use Rattle.guards_model.specs.Rounds.{Steps}
use Rattle.guards_runs.specs.Cycles.{cycles_before, cycle_at}
use Rattle.guards_runs.specs.Disturbed.{is_charge}
use Rattle.guards_runs.specs.Due.{receivers}
use Rattle.guards_world.specs.Worlds.{WorldValue, facts_in}
use Rattle.guards_world.specs.InCycle.{InCycle}
use Rattle.guards_world.specs.WorldCycle.{AreFull}
use Rattle.fault_script.specs.declared.disturbance.Disturbance.{Disturbance}
use Rattle.icn_world.specs.Kept.{IsWorldKept}
use Rattle.icn_world.specs.Stages.{IsWithinCycle, MayCarry}

-- what is true of the mission and of the count of cycles of a world stays so
pub of_kept : (P : MissionValue → ℕ → Type 0) (old new : WorldValue) → IsWorldKept old new → P old.mission old.done →
    P new.mission new.done
of_kept P old new kept h =
    subst (λ (n : ℕ). P new.mission n) (sym kept.done) (subst (λ (M : MissionValue). P M old.done) (sym kept.mission) h)

-- the world is still within the cycle, where the steps are known to be full if the tasks slot is handed over by now
pub still_inside : (slot next : Slot) (carried handed most more : ℕ) (earlier current : Log) (steps : Steps)
    (old new : WorldValue) (d : Disturbance) → IsWorldKept old new →
    IsWithinCycle slot carried handed earlier current steps old d →
    (slot_index Tasks < more → slot_index Tasks < handed) →
    InCycle old.mission earlier current steps next most more new →
    IsWithinCycle next most more earlier current steps new d
still_inside slot next carried handed most more earlier current steps old new d kept within sooner inside =
    record {
      inside = subst (λ (M : MissionValue). InCycle M earlier current steps next most more new) (sym kept.mission)
          inside;
      full = λ late. of_kept (λ M n.
          AreFull M (cycles_before M (earlier ++ current) n) (cycle_at M (earlier ++ current) n) steps) old new kept
          (within.full (sooner late));
      active = of_kept (λ M n. d.active ≡ (cycle_at M (earlier ++ current) n).active) old new kept within.active;
      charged = of_kept (λ M n. (q : Channel) → q < 7 → has d.charged q ≡ list_any (is_charge n Switch q) current) old
          new kept within.charged;
    }

-- what entering a slot does to the world
abbrev pub Enters : Slot → WorldValue → WorldValue → Type 0
Enters slot old new =
    (earlier current : Log) (steps : Steps) (before : Slot) (carried handed : ℕ) → up_to before slot ≡ true →
    on_bus slot ≡ true →
    InCycle old.mission earlier current steps before carried handed old →
    InCycle old.mission earlier current steps slot carried handed new

pub entered : (before slot : Slot) (carried handed : ℕ) (earlier current : Log) (steps : Steps) (old new : WorldValue)
    (d : Disturbance) → IsWorldKept old new → Enters slot old new →
    up_to before slot ≡ true → on_bus slot ≡ true → IsWithinCycle before carried handed earlier current steps old d →
    IsWithinCycle slot carried handed earlier current steps new d
entered before slot carried handed earlier current steps old new d kept enters soon on within =
    still_inside before slot carried handed carried handed earlier current steps old new d kept within (λ late. late)
    (enters earlier current steps before carried handed soon on within.inside)

-- so the slot may be carried to these receivers
pub may_carry : (before slot : Slot) (to : List ℕ) (earlier current : Log) (steps : Steps) (old new : WorldValue)
    (d : Disturbance) → IsWorldKept old new → Enters slot old new →
    up_to before slot ≡ true → on_bus slot ≡ true →
    IsWithinCycle before (stage_before slot) (stage_before slot) earlier current steps old d →
    receivers (facts_in old (earlier ++ current)) slot ≡ to → MayCarry slot to earlier current steps new d
may_carry before slot to earlier current steps old new d kept enters soon on within are =
    record {
      on = on;
      stands = entered before slot (slot_index slot) (slot_index slot) earlier current steps old new d kept enters soon
          on within;
      receivers_are = of_kept (λ M n. receivers (cycle_at M (earlier ++ current) n) slot ≡ to) old new kept are;
    }
