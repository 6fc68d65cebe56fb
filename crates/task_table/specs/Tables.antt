-- A table of tasks, by its rows.
use Rattle.std.specs.Prelude.{ℕ, Bool, nat_lt, nat_le, ◌&&◌, List, [], length, map, unwrap_or, slice_get}
use Rattle.std.specs.List.{list_all}
use Rattle.guards_model.specs.Expressions.{fits_or_none}
use Rattle.guards_model.specs.Tasks.{WriteValue, TaskValue, writes_of}
use Rattle.guards_model.specs.Missions.{row_in_turn}
use Rattle.guards_base.specs.Seen.{Seen}

-- the tasks of each row, for contexts of so many blocks and so many input words
pub record TableValue : Type 0 where
  pub rows : List (List TaskValue)
  pub blocks : ℕ
  pub width : ℕ

abbrev pub no_task : TaskValue
no_task = record { name = []; writes = [] }

-- the task at a place, and the tasks at the places that a row names
abbrev pub nth_task : List TaskValue → ℕ → TaskValue
nth_task tasks place = unwrap_or (slice_get tasks place) no_task

abbrev pub named_tasks : List TaskValue → List ℕ → List TaskValue
named_tasks tasks row = map (nth_task tasks) row

-- the tasks of a row
abbrev pub tasks_in_row : List (List TaskValue) → ℕ → List TaskValue
tasks_in_row rows row = unwrap_or (slice_get rows row) []

-- the writes of a cycle, task by task
abbrev pub table_writes : TableValue → ℕ → List WriteValue
table_writes table cycle = writes_of (row_in_turn table.rows cycle)

-- the blocks, words and inputs that the expressions of a task name are there
abbrev pub expressions_fit : ℕ → ℕ → TaskValue → Bool
expressions_fit blocks width task = list_all (λ write. list_all (fits_or_none blocks width) write.set) task.writes

-- a row names tasks that are there
abbrev pub names_tasks : ℕ → List ℕ → Bool
names_tasks count row = list_all (λ place. nat_lt place count) row

-- the places that each row names
abbrev pub places_of : List (Seen ℕ) → List (List ℕ)
places_of rows = map (λ row. row.items) rows

-- the table of these tasks and of rows that name them
abbrev pub table_naming : List TaskValue → List (List ℕ) → ℕ → ℕ → TableValue
table_naming tasks rows blocks width = record { rows = map (named_tasks tasks) rows; blocks = blocks; width = width }
