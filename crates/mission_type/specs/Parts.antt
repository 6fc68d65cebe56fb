-- What the parts of a mission are together.
use Rattle.std.specs.Prelude.{◌≡◌, ◌≤◌, true, ◌&&◌, ◌==◌, nat_lt, ℕ, ℤ, List, length, map, take, Option, Some, None, option_map}
use Rattle.std.specs.List.{list_all}
use Rattle.guards_base.specs.Padding.{padded}
use Rattle.guards_base.specs.Seen.{Seen}
use Rattle.guards_model.specs.Actuators.{AreForward}
use Rattle.guards_model.specs.Contexts.{ContextValue}
use Rattle.guards_model.specs.Faults.{FaultValue}
use Rattle.guards_model.specs.Missions.{RulesValue, ActuatorValue, MissionValue, IsMission}
use Rattle.mission_type.specs.declared.mission.Actuator.{Actuator}
use Rattle.task_table.specs.Tables.{TableValue}

-- the rows of arrays, by channel
abbrev pub rows_of : List (Seen (List ℤ)) → List (List (List ℤ))
rows_of rows = map (λ row. row.items) rows

-- the words in use
abbrev pub in_use : ℕ → List (Seen (List ℤ)) → List (List (List ℤ))
in_use width rows = map (λ row. map (take width) row.items) rows

-- the steps and words of so many outputs
abbrev pub actuator_of : ℕ → Option Actuator → Option ActuatorValue
actuator_of outputs actuator =
    option_map (λ a. record { steps = take outputs a.steps; start = take outputs a.start }) actuator

-- each step of an actuator's array is at least 0, past the outputs too
abbrev pub DrivesForward : Option Actuator → Type 0
DrivesForward None = Unit {0}
DrivesForward (Some a) = AreForward a.steps

-- the mission of these parts
abbrev pub mission_with : RulesValue → ℕ → ℕ → ℕ → ContextValue → TableValue → List (ℕ × ℕ) → List (Seen (List ℤ)) →
    List FaultValue → Option Actuator → MissionValue
mission_with rules cycles width return_after initial table outputs sensors script actuator =
    record {
      rules = rules;
      cycles = cycles;
      width = width;
      return_after = return_after;
      initial = initial;
      table = table.rows;
      outputs = outputs;
      sensors = in_use width sensors;
      script = script;
      actuator = actuator_of (length outputs) actuator;
    }

-- what follows of the sizes of a mission: they are within their ranges, the context has as many blocks as the rules
-- say, outputs are words that there are, and each row has the words of each channel
pub record IsSized (M : MissionValue) : Type 0 where
  pub many : 3 ≤ M.rules.channels
  pub seven : M.rules.channels ≤ 7
  pub wide : 1 ≤ M.width
  pub narrow : M.width ≤ 4
  pub initial : length M.initial ≡ M.rules.blocks
  pub some : 1 ≤ length M.outputs
  pub few : length M.outputs ≤ 8
  pub outputs : list_all (λ o. nat_lt o.0 M.rules.blocks && nat_lt o.1 8) M.outputs ≡ true
  pub turns : 1 ≤ length M.sensors
  pub each : list_all (λ row. length row == M.rules.channels) M.sensors ≡ true

-- the parts are a mission, the table is made for its contexts and inputs, the arrays of sensor words have 0 past the
-- width, and no step is below 0
pub record AreParts (M : MissionValue) (table : TableValue) (sensors : List (Seen (List ℤ)))
    (actuator : Option Actuator) : Type 0 where
  pub mission : IsMission M
  pub blocks : table.blocks ≡ M.rules.blocks
  pub inputs : table.width ≡ M.width
  pub zeros : rows_of sensors ≡ map (map (padded 4)) M.sensors
  pub forward : DrivesForward actuator
