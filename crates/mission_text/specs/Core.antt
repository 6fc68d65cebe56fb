-- The table `core`: the sizes of a mission, its limits, and its choices.
use Rattle.std.specs.Prelude.{ℕ, List, [], ◌∷◌, codes, Option, Some, None, Ok, if◌then◌else◌}
use Rattle.std.specs.Str.{bytes_eq}
use Rattle.toml.specs.Data.{Data, Members, get_member}
use Rattle.guards_model.specs.declared.Law.{Law}
use Rattle.guards_model.specs.declared.Law.TheVariants.{Multiply, Subtract}
use Rattle.guards_model.specs.Missions.{RulesValue, is_law}
use Rattle.mission_text.specs.declared.core_fields.CoreSizes.{CoreSizes}
use Rattle.mission_text.specs.declared.core_fields.Limits.{Limits}
use Rattle.mission_text.specs.declared.core_fields.Choices.{Choices}
use Rattle.mission_text.specs.declared.core_fields.CoreFields.{CoreFields}
use Rattle.document_checks.specs.declared.why.Cause.TheVariants.{OutOfRange, Unknown}
use Rattle.document_checks.specs.Checks.{Checked, ◌>>=◌, fails, field, text_of, table_of, only, demand, number, number_or}

abbrev pub core_keys : List (List ℕ)
core_keys =
    codes "channels" ∷ codes "cycles" ∷ codes "blocks" ∷ codes "width" ∷ codes "keep" ∷ codes "threshold"
    ∷ codes "return_after"
    ∷ codes "sweep" ∷ codes "final" ∷ codes "version" ∷ codes "decay" ∷ codes "decrement" ∷ codes "returning" ∷ []

-- the sizes, none of which has a default
unfoldable pub sizes_at : List ℕ → Members → Checked CoreSizes
sizes_at path fields = do
  channels ← number 3 7 path (codes "channels") fields
  cycles ← number 1 2000 path (codes "cycles") fields
  blocks ← number 1 256 path (codes "blocks") fields
  width ← number 1 4 path (codes "width") fields
  Ok (record { channels = channels; cycles = cycles; blocks = blocks; width = width })

-- the limits of diagnosis, return and transfer
unfoldable pub limits_at : List ℕ → Members → Checked Limits
limits_at path fields = do
  keep ← number_or 32768 0 65536 path (codes "keep") fields
  threshold ← number_or 131072 65536 6553600 path (codes "threshold") fields
  return_after ← number_or 2 0 1000 path (codes "return_after") fields
  sweep ← number_or 16 1 64 path (codes "sweep") fields
  last ← number_or 8 0 64 path (codes "final") fields
  Ok (record { keep = keep; threshold = threshold; return_after = return_after; sweep = sweep; last = last })

-- the law of decay that a text names; in version 1 it is Multiply
abbrev pub law_named : List ℕ → List ℕ → Checked Law
law_named path text =
    if bytes_eq text (codes "multiply") then Ok Multiply
    else if bytes_eq text (codes "subtract") then Ok Subtract
    else fails Unknown path

unfoldable pub decay_law_at : ℕ → List ℕ → Data → Checked Law
decay_law_at version path value = do
  text ← text_of path value
  law ← law_named path text
  _ ← demand (is_law version law) OutOfRange path
  Ok law

abbrev pub law_or : ℕ → List ℕ → Option Data → Checked Law
law_or version path None = Ok Multiply
law_or version path (Some value) = decay_law_at version path value

unfoldable pub law_field : ℕ → List ℕ → Members → Checked Law
law_field version path fields = law_or version (field path (codes "decay")) (get_member (codes "decay") fields)

-- the version of frames, the law of decay, and how many channels one transfer restores at most
unfoldable pub choices_at : List ℕ → Members → Checked Choices
choices_at path fields = do
  version ← number_or 1 1 2 path (codes "version") fields
  law ← law_field version path fields
  decrement ← number_or 32768 0 6553600 path (codes "decrement") fields
  returning ← number_or 1 1 2 path (codes "returning") fields
  Ok (record { version = version; law = law; decrement = decrement; returning = returning })

unfoldable pub core_at : List ℕ → Data → Checked CoreFields
core_at path value = do
  fields ← table_of path value
  _ ← only core_keys path fields
  sizes ← sizes_at path fields
  limits ← limits_at path fields
  choices ← choices_at path fields
  Ok (record { sizes = sizes; limits = limits; choices = choices })

-- the rules of a mission
abbrev pub rules_of : CoreFields → RulesValue
rules_of core =
    record {
      channels = core.sizes.channels;
      blocks = core.sizes.blocks;
      version = core.choices.version;
      law = core.choices.law;
      keep = core.limits.keep;
      decrement = core.choices.decrement;
      threshold = core.limits.threshold;
      sweep = core.limits.sweep;
      last = core.limits.last;
      returning = core.choices.returning;
    }
