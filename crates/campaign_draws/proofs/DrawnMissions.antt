-- A drawn script makes a mission of one that had another.
use Rattle.std.proofs.Common.{◌≡◌, ◌≤◌, ◌^◌, ℕ, true, List, refl, ◌&&◌, arith}
use Rattle.std.specs.Prelude.{ℤ, pos, Option, None, IsTrue, slice_get, unwrap_or, nat_le}
use Rattle.std.specs.List.{list_all}
use Rattle.std.proofs.lemmas.Bool.{leb-true}
use Rattle.guards_base.specs.Seen.{Seen}
use Rattle.guards_model.specs.declared.Slot.TheVariants.{Request}
use Rattle.guards_model.specs.Contexts.{ContextValue}
use Rattle.guards_model.specs.Faults.{FaultValue, crash, damage}
use Rattle.guards_model.specs.Missions.{MissionValue, RulesValue, IsMission, is_law, is_rules, within}
use Rattle.guards_model.specs.ScriptFaults.{script_fault}
use Rattle.guards_model.specs.Slots.{every_slot, on_bus}
use Rattle.guards_model.proofs.BoolTests.{both}
use Rattle.guards_model.proofs.ListTests.{place_passes}
use Rattle.demo_mission.specs.Demo.{drawn}
use Rattle.demo_mission.proofs.IsDemo.{drawn_below}
use Rattle.task_table.specs.Tables.{TableValue}
use Rattle.fault_entries.specs.Entries.{is_entry}
use Rattle.fault_entries.proofs.Fits.{script_fits}
use Rattle.mission_type.specs.declared.mission.Actuator.{Actuator}
use Rattle.mission_type.specs.Parts.{AreParts, mission_with}
use Rattle.mission_type.proofs.MissionSizes.{sized}
use Rattle.campaign_draws.specs.declared.rates.Rates.{Rates}
use Rattle.campaign_draws.specs.Drawing.{SizesValue, drawn_faults, drawn_mission, sizes_of, with_script}
use Rattle.campaign_draws.proofs.Kept.{drawn_kept}
use Rattle.campaign_draws.proofs.Drawn.{word_is}
use Rattle.campaign_draws.proofs.Passing.{drawn_pass}

pub drawn_entries : (S : SizesValue) (rates : Rates) (x : ℕ) → list_all is_entry (drawn_faults S rates x) ≡ true
drawn_entries S rates x =
    drawn_pass is_entry S rates (λ c q k _ _. place_passes on_bus every_slot k Request refl refl) (λ c q _ _. refl)
    (λ c q x y z _ _. word_is (drawn (2 ^ 31) z) (drawn_below (2 ^ 31) z (omega arith))) (λ c q x slot _ _. refl) (λ c q x y _ _. refl) x

-- a mission has any other script too that breaks no rule
pub other_mission : (M : MissionValue) (other : List FaultValue) → IsMission M → list_all is_entry other ≡ true →
    script_fault M.rules.channels M.cycles M.rules.blocks other ≡ None → IsMission (with_script M other)
other_mission M other old entries kept =
    record {
      rules = old.rules;
      cycles = old.cycles;
      width = old.width;
      return_after = old.return_after;
      initial = old.initial;
      table = old.table;
      outputs = old.outputs;
      sensors = old.sensors;
      script = script_fits M.rules.channels M.cycles M.rules.blocks other entries kept (with_script M other) refl refl
          refl;
      actuator = old.actuator;
    }

module _ (rules : RulesValue) (cycles width return_after : ℕ) (initial : ContextValue) (table : TableValue)
    (outputs : List (ℕ × ℕ)) (sensors : List (Seen (List ℤ))) (script other : List FaultValue)
    (actuator : Option Actuator) where
  pub with_other : AreParts
      (mission_with rules cycles width return_after initial table outputs sensors script actuator) table sensors actuator →
      list_all is_entry other ≡ true → script_fault rules.channels cycles rules.blocks other ≡ None →
      AreParts (mission_with rules cycles width return_after initial table outputs sensors other actuator) table sensors
      actuator
  with_other parts entries kept =
      let M : MissionValue =
      mission_with rules cycles width return_after initial table outputs sensors script actuator in
      record {
        mission = other_mission M other parts.mission entries kept;
        blocks = parts.blocks;
        inputs = parts.inputs;
        zeros = parts.zeros;
        forward = parts.forward;
      }

-- the sizes of a mission that its drawn faults depend on are in range
pub record FitSizes (M : MissionValue) : Type 0 where
  pub cycles : M.cycles ≤ 2000
  pub some : 1 ≤ M.rules.blocks
  pub blocks : M.rules.blocks ≤ 256
  pub least : 1 ≤ M.rules.version
  pub most : M.rules.version ≤ 2

between : (low high n : ℕ) → IsTrue (within low high n) → (low ≤ n) × (n ≤ high)
between low high n is = let parts = both (nat_le low n) (nat_le n high) is in (leb-true low n parts.0, leb-true n high parts.1)

pub sizes_fit : (M : MissionValue) → IsMission M → FitSizes M
sizes_fit M mission =
    let halves = both _ _ mission.rules in
    let first = both _ _ halves.0 in
    let blocks = between 1 256 M.rules.blocks (both _ _ first.0).1 in
    let second = both _ _ halves.1 in
    let third = both _ _ second.1 in
    let version = between 1 2 M.rules.version (both _ _ third.0).0 in
    let cycles = between 1 2000 M.cycles mission.cycles in
    record { cycles = cycles.1; some = blocks.0; blocks = blocks.1; least = version.0; most = version.1 }

-- so it has the drawn ones
pub drawn_is_mission : (M : MissionValue) (rates : Rates) (x : ℕ) → IsMission M → IsMission (drawn_mission M rates x)
unfolding drawn_mission
drawn_is_mission M rates x mission =
    let S : SizesValue = sizes_of M in
    let sizes = sized M mission in
    let fit = sizes_fit M mission in
    other_mission M (drawn_faults S rates x) mission (drawn_entries S rates x)
    (drawn_kept S rates x sizes.many fit.some sizes.few)
