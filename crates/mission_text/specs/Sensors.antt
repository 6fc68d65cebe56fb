-- The key `sensors`: the words of each channel, row by row.
use Rattle.std.specs.Prelude.{ℕ, ℤ, pos, negsuc, Bool, false, ◌&&◌, ◌==◌, List, [], map, take, drop, length, codes}
use Rattle.std.specs.List.{list_all}
use Rattle.toml.specs.Data.{Data, Members}
use Rattle.guards_model.specs.Words.{is_word}
use Rattle.guards_base.specs.Seen.{Seen}
use Rattle.document_checks.specs.Checks.{Checked, ◌>>=◌, required, sized, each, alone, integers}

-- a row of sensors: for each channel so many words
unfoldable pub sensor_row_at : ℕ → ℕ → List ℕ → Data → Checked (List (List ℤ))
sensor_row_at channels width path value = do
  items ← sized channels channels path value
  each (alone (integers width)) path [] items

unfoldable pub sensors_field : ℕ → ℕ → Members → Checked (List (List (List ℤ)))
sensors_field channels width fields = do
  given ← required [] (codes "sensors") fields
  items ← sized 1 64 (codes "sensors") given
  each (alone (sensor_row_at channels width)) (codes "sensors") [] items

-- ---- rows in memory, where each channel has four places

-- the words of each channel
abbrev pub sensor_row : ℕ → Seen (List ℤ) → List (List ℤ)
sensor_row width row = map (take width) row.items

-- so many words
abbrev pub are_sensor_words : ℕ → List ℤ → Bool
are_sensor_words width words = length words == width && list_all is_word words

-- so many words for each channel
abbrev pub is_sensor_row : ℕ → ℕ → List (List ℤ) → Bool
is_sensor_row channels width row = length row == channels && list_all (are_sensor_words width) row

abbrev pub is_zero : ℤ → Bool
is_zero (pos n) = n == 0
is_zero (negsuc n) = false

-- four places, of which those past the width are 0
abbrev pub are_places : ℕ → List ℤ → Bool
are_places width places = length places == 4 && list_all is_zero (drop width places)

abbrev pub is_row_of_places : ℕ → Seen (List ℤ) → Bool
is_row_of_places width row = list_all (are_places width) row.items
