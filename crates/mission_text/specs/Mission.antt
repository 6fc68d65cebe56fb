-- The mission that bytes stand for, or the first check that fails.
use Rattle.std.specs.Prelude.{ℕ, List, [], ◌∷◌, length, codes, Ok}
use Rattle.toml.specs.Data.{Members}
use Rattle.guards_model.specs.Missions.{MissionValue}
use Rattle.fault_entries.specs.FaultTexts.{script_field}
use Rattle.document_checks.specs.Checks.{Checked, ◌>>=◌, required, only, document}
use Rattle.mission_text.specs.declared.core_fields.CoreFields.{CoreFields}
use Rattle.mission_text.specs.Core.{core_at, rules_of}
use Rattle.mission_text.specs.Blocks.{initial_field}
use Rattle.mission_text.specs.Rows.{table_field}
use Rattle.mission_text.specs.Outputs.{outputs_field}
use Rattle.mission_text.specs.Sensors.{sensors_field}
use Rattle.mission_text.specs.Actuators.{actuator_field}

abbrev pub document_keys : List (List ℕ)
document_keys =
    codes "core" ∷ codes "init" ∷ codes "task" ∷ codes "table" ∷ codes "outputs" ∷ codes "sensors"
    ∷ codes "fault" ∷ codes "actuator" ∷ []

-- the mission with this core, by the other keys of its document
unfoldable pub mission_after : CoreFields → Members → Checked MissionValue
mission_after core fields = do
  initial ← initial_field core.sizes.blocks fields
  table ← table_field core.sizes.blocks core.sizes.width fields
  outputs ← outputs_field core.sizes.blocks core.sizes.width fields
  sensors ← sensors_field core.sizes.channels core.sizes.width fields
  script ← script_field core.sizes.channels core.sizes.cycles core.sizes.blocks fields
  actuator ← actuator_field (length outputs) fields
  Ok (record {
    rules = rules_of core;
    cycles = core.sizes.cycles;
    width = core.sizes.width;
    return_after = core.limits.return_after;
    initial = initial;
    table = table;
    outputs = outputs;
    sensors = sensors;
    script = script;
    actuator = actuator;
  })

-- the mission of a document, key by key
unfoldable pub mission_at : Members → Checked MissionValue
mission_at fields = do
  _ ← only document_keys [] fields
  given ← required [] (codes "core") fields
  core ← core_at (codes "core") given
  mission_after core fields

-- the mission that bytes stand for, or the first check that fails
unfoldable pub mission_of : List ℕ → Checked MissionValue
mission_of bytes = do
  fields ← document bytes
  mission_at fields
