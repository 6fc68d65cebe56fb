-- What was read of each key makes a mission.
use Rattle.std.proofs.Common.{◌≡◌, ℕ, ◌≤◌, List, length, true, Option, refl, arith}
use Rattle.std.specs.List.{list_all}
use Rattle.std.specs.Prelude.{IsTrue, ◌&&◌, nat_lt, ℤ}
use Rattle.guards_base.specs.Masks.{both}
use Rattle.guards_base.specs.Seen.{Seen}
use Rattle.guards_model.specs.Contexts.{ContextValue}
use Rattle.guards_model.specs.Faults.{FaultValue}
use Rattle.guards_model.specs.Missions.{MissionValue, within, is_rules, is_context, is_table, is_sensors, is_actuator, IsMission}
use Rattle.task_table.specs.Tables.{TableValue}
use Rattle.fault_entries.specs.Entries.{FitsSizes}
use Rattle.mission_type.specs.Parts.{AreParts, DrivesForward, actuator_of, mission_with, in_use}
use Rattle.mission_type.specs.declared.mission.Actuator.{Actuator}
use Rattle.mission_text.specs.declared.core_fields.CoreFields.{CoreFields}
use Rattle.mission_text.specs.Core.{rules_of}
use Rattle.mission_text.specs.Sensors.{is_row_of_places}
use Rattle.mission_text.proofs.RowsOfWords.{rows_back}

from_to : (low high n : ℕ) → low ≤ n → n ≤ high → within low high n ≡ true
from_to low high n least most = grind (arith, least, most)

pub made : (core : CoreFields) (initial : ContextValue) (table : TableValue) (outputs : List (ℕ × ℕ))
    (sensors : List (Seen (List ℤ))) (script : List FaultValue) (actuator : Option Actuator)
    → IsTrue (is_rules (rules_of core)) → (1 ≤ core.sizes.cycles) × (core.sizes.cycles ≤ 2000) →
    (1 ≤ core.sizes.width) × (core.sizes.width ≤ 4) → core.limits.return_after ≤ 1000
    → IsTrue (is_context core.sizes.blocks initial)
    → table.blocks ≡ core.sizes.blocks → table.width ≡ core.sizes.width →
    IsTrue (is_table core.sizes.blocks core.sizes.width table.rows)
    → IsTrue (within 1 8 (length outputs) && list_all (λ o. nat_lt o.0 core.sizes.blocks && nat_lt o.1 8) outputs)
    → IsTrue (is_sensors core.sizes.channels core.sizes.width (in_use core.sizes.width sensors)
    && list_all (is_row_of_places core.sizes.width) sensors)
    → FitsSizes core.sizes.channels core.sizes.cycles core.sizes.blocks script
    → IsTrue (is_actuator (length outputs) (actuator_of (length outputs) actuator)) → DrivesForward actuator
    → AreParts (mission_with (rules_of core) core.sizes.cycles core.sizes.width core.limits.return_after initial table
    outputs sensors script actuator) table sensors actuator
made core initial table outputs sensors script actuator rules cycles width return_after context blocks inputs rows words
    whole fits drives forward =
    let parts = both (is_sensors core.sizes.channels core.sizes.width (in_use core.sizes.width sensors))
    (list_all (is_row_of_places core.sizes.width) sensors) whole in
    let M : MissionValue = mission_with (rules_of core) core.sizes.cycles core.sizes.width core.limits.return_after
    initial table outputs sensors script actuator in
    let mission : IsMission M =
    record {
      rules = rules;
      cycles = from_to 1 2000 core.sizes.cycles cycles.0 cycles.1;
      width = from_to 1 4 core.sizes.width width.0 width.1;
      return_after = from_to 0 1000 core.limits.return_after (omega arith) return_after;
      initial = context;
      table = rows;
      outputs = words;
      sensors = parts.0;
      script = fits M refl refl refl;
      actuator = drives;
    } in
    record {
      mission = mission;
      blocks = blocks;
      inputs = inputs;
      zeros = rows_back core.sizes.width sensors parts.1;
      forward = forward;
    }
