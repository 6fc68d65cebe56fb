-- The key `actuator`: what the output words drive.
use Rattle.std.specs.Prelude.{ℕ, ℤ, pos, int_le, Bool, ◌&&◌, ◌==◌, List, [], ◌∷◌, length, take, replicate, codes, Ok, Option, Some, None}
use Rattle.std.specs.List.{list_all}
use Rattle.toml.specs.Data.{Data, Members, get_member}
use Rattle.guards_model.specs.Missions.{ActuatorValue}
use Rattle.guards_model.specs.Words.{is_word}
use Rattle.mission_type.specs.declared.mission.Actuator.{Actuator}
use Rattle.document_checks.specs.declared.why.Cause.TheVariants.{OutOfRange}
use Rattle.document_checks.specs.Checks.{Checked, ◌>>=◌, field, required, table_of, only, demand, sized, each, alone, integer_of, integers}

-- an integer that is at least 0
unfoldable pub step_at : List ℕ → Data → Checked ℤ
step_at path value = do
  step ← integer_of path value
  _ ← demand (int_le (pos 0) step) OutOfRange path
  Ok step

-- so many steps
unfoldable pub steps_at : ℕ → List ℕ → Data → Checked (List ℤ)
steps_at outputs path value = do
  items ← sized outputs outputs path value
  each (alone step_at) path [] items

-- so many words, 0 where the field is not there
abbrev pub words_or_zeros : ℕ → List ℕ → Option Data → Checked (List ℤ)
words_or_zeros outputs path None = Ok (replicate outputs (pos 0))
words_or_zeros outputs path (Some value) = integers outputs path value

unfoldable pub actuator_at : ℕ → List ℕ → Data → Checked ActuatorValue
actuator_at outputs path value = do
  fields ← table_of path value
  _ ← only (codes "step" ∷ codes "start" ∷ []) path fields
  given ← required path (codes "step") fields
  steps ← steps_at outputs (field path (codes "step")) given
  start ← words_or_zeros outputs (field path (codes "start")) (get_member (codes "start") fields)
  Ok (record { steps = steps; start = start })

abbrev pub actuator_or_none : ℕ → List ℕ → Option Data → Checked (Option ActuatorValue)
actuator_or_none outputs path None = Ok None
actuator_or_none outputs path (Some value) = do
  actuator ← actuator_at outputs path value
  Ok (Some actuator)

-- the actuator of so many outputs, if there is one
unfoldable pub actuator_field : ℕ → Members → Checked (Option ActuatorValue)
actuator_field outputs fields = actuator_or_none outputs (codes "actuator") (get_member (codes "actuator") fields)

-- ---- an actuator in memory, which has eight places, and what is known of one that was read

-- what it means with so many outputs
abbrev pub actuator_value : ℕ → Actuator → ActuatorValue
actuator_value outputs a = record { steps = take outputs a.steps; start = take outputs a.start }

abbrev pub is_step : ℤ → Bool
is_step step = is_word step && int_le (pos 0) step

-- so many steps, so many words
abbrev pub are_steps : ℕ → List ℤ → Bool
are_steps outputs steps = length steps == outputs && list_all is_step steps

abbrev pub are_starts : ℕ → List ℤ → Bool
are_starts outputs words = length words == outputs && list_all is_word words
