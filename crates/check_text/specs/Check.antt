-- The text of `check`: what a mission is, and the expressions of its table.
use Rattle.std.specs.Prelude.{ℕ, ◌+◌, List, [], ◌∷◌, ◌++◌, flat_map, Option, Some, None}
use Rattle.guards_model.specs.Channels.{tolerated_faults}
use Rattle.guards_model.specs.Expressions.{Expression}
use Rattle.guards_model.specs.Tasks.{TaskValue, WriteValue}
use Rattle.guards_model.specs.Missions.{MissionValue, channels_of}
use Rattle.guards_model.specs.JoinBound.{join_bound, most_blocks}
use Rattle.guards_model.specs.Texts.{TextValue, part_text}
use Rattle.guards_model.specs.CheckTexts.{check_head_part, expression_line}
use Rattle.expr_text.specs.Printing.{canonical}

-- the texts of a list's elements by their places, the first of which is k, one after the other
abbrev pub texts_from : {A : Type 0} → (ℕ → A → TextValue) → ℕ → List A → TextValue
texts_from text k [] = []
texts_from text k (x ∷ xs) = text k x ++ texts_from text (k + 1) xs

-- the line of the expression of a word, and nothing where the word stays
abbrev pub word_text : ℕ → TextValue → ℕ → ℕ → Option Expression → TextValue
word_text row task block word None = []
word_text row task block word (Some e) = expression_line row task block word (canonical e)

-- the lines of a write, word by word
unfoldable pub write_text : ℕ → TextValue → WriteValue → TextValue
write_text row task w = texts_from (word_text row task w.block) 0 w.set

-- the lines of a task, write by write
unfoldable pub task_text : ℕ → TaskValue → TextValue
task_text row t = flat_map (write_text row t.name) t.writes

-- the lines of a row, task by task
unfoldable pub row_text : ℕ → List TaskValue → TextValue
row_text row tasks = flat_map (task_text row) tasks

-- oral messages take one round more than disturbed channels are tolerated
abbrev pub rounds_of : MissionValue → ℕ
rounds_of M = tolerated_faults (channels_of M) + 1

-- the most cycles that a transfer takes, if that is bounded
abbrev pub bound_of : MissionValue → Option ℕ
bound_of M = join_bound M.rules.blocks M.rules.sweep M.rules.last (most_blocks M.table)

-- the first four lines
unfoldable pub head_text : MissionValue → TextValue
head_text M = part_text (check_head_part M.rules.channels M.cycles M.rules.blocks (rounds_of M) (most_blocks M.table)
    (bound_of M))

-- the first four lines, and the lines of each row
abbrev pub check_of : MissionValue → TextValue
check_of M = head_text M ++ texts_from row_text 0 M.table
