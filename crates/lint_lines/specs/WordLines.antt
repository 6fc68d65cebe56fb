-- The lines on words: those that are stored, those that are read, and those on which the outputs depend.
use Rattle.std.specs.Prelude.{ℕ, ◌*◌, ◌/◌, ◌%◌, pos, Bool, not, ◌&&◌, List, [], ◌∷◌, ◌++◌, flat_map, if◌then◌else◌}
use Rattle.std.specs.Ordering.{int_eq}
use Rattle.guards_model.specs.Channels.{numbers_below}
use Rattle.guards_model.specs.Contexts.{ContextValue, context_word}
use Rattle.guards_model.specs.Missions.{MissionValue}
use Rattle.table_flow.specs.Flow.{is_depended_on, is_input_read, is_read, is_written, lists_from, word_number}
use Rattle.lint_lines.specs.declared.line.LintLine.{LintLine}
use Rattle.lint_lines.specs.declared.line.LintLine.TheVariants.{SilentWord, UnwrittenOutput, UnreadSensor, UnwrittenWord}

-- the words of the mission's contexts, of which word j of block b has the number b * 8 + j
abbrev pub word_numbers : MissionValue → List ℕ
word_numbers M = numbers_below (M.rules.blocks * 8)

-- a word that is written, and on which no output depends
abbrev pub silent_line : (ℕ → Bool) → (ℕ → Bool) → ℕ → List LintLine
silent_line written depended w = if written w && not (depended w) then SilentWord (w / 8) (w % 8) ∷ [] else []

abbrev pub silent_lines : MissionValue → List LintLine
silent_lines M =
    flat_map (silent_line (is_written M.table) (is_depended_on M.rules.blocks M.table M.outputs)) (word_numbers M)

-- an output that no task of the table writes
abbrev pub output_line : (ℕ → Bool) → ℕ → ℕ × ℕ → List LintLine
output_line written place o = if written (word_number o.0 o.1) then [] else UnwrittenOutput place o.0 o.1 ∷ []

abbrev pub output_lines : MissionValue → List LintLine
output_lines M = lists_from (output_line (is_written M.table)) 0 M.outputs

-- a place of the sensor words that no task of the table reads
abbrev pub sensor_line : (ℕ → Bool) → ℕ → List LintLine
sensor_line read k = if read k then [] else UnreadSensor k ∷ []

abbrev pub sensor_lines : MissionValue → List LintLine
sensor_lines M = flat_map (sensor_line (is_input_read M.table)) (numbers_below M.width)

-- whether a word of the context is 0
abbrev pub is_zero_at : ContextValue → ℕ → Bool
is_zero_at context w = int_eq (context_word context (w / 8) (w % 8)) (pos 0)

-- a word that is read and never written, and begins as 0
abbrev pub unwritten_line : ContextValue → (ℕ → Bool) → (ℕ → Bool) → ℕ → List LintLine
unwritten_line context read written w =
    if (read w && not (written w)) && is_zero_at context w then UnwrittenWord (w / 8) (w % 8) ∷ [] else []

abbrev pub unwritten_lines : MissionValue → List LintLine
unwritten_lines M = flat_map (unwritten_line M.initial (is_read M.table) (is_written M.table)) (word_numbers M)

-- all lines on words
unfoldable pub word_lines : MissionValue → List LintLine
word_lines M = silent_lines M ++ (output_lines M ++ (sensor_lines M ++ unwritten_lines M))
