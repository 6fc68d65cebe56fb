-- The key `table`: the rows, each of which names its tasks; and the rules of the whole table.
use Rattle.std.specs.Prelude.{ℕ, List, [], map, codes, Option, Some, None, Ok}
use Rattle.std.specs.List.{position}
use Rattle.toml.specs.Data.{Data, Members}
use Rattle.guards_model.specs.Tasks.{TaskValue}
use Rattle.task_table.specs.declared.fault.TableFault.{TableFault}
use Rattle.task_table.specs.declared.fault.TableFault.TheVariants as table
use Rattle.task_table.specs.TableFaults.{table_fault}
use Rattle.task_table.specs.Tables.{named_tasks}
use Rattle.document_checks.specs.declared.why.Cause.{Cause}
use Rattle.document_checks.specs.declared.why.Cause.TheVariants.{Missing, OutOfRange, Unknown}
use Rattle.document_checks.specs.Checks.{Checked, ◌>>=◌, fails, field, element, required, text_of, array_of, each, alone}
use Rattle.mission_text.specs.Tasks.{has_name, tasks_field}

-- ---- rows, by the places of their tasks

abbrev pub place_or_unknown : List ℕ → Option ℕ → Checked ℕ
place_or_unknown path None = fails Unknown path
place_or_unknown path (Some place) = Ok place

-- the place of the task that a text names
unfoldable pub place_at : List TaskValue → List ℕ → Data → Checked ℕ
place_at tasks path value = do
  name ← text_of path value
  place_or_unknown path (position (has_name name) tasks)

unfoldable pub row_at : List TaskValue → List ℕ → Data → Checked (List ℕ)
row_at tasks path value = do
  items ← array_of path value
  each (alone (place_at tasks)) path [] items

unfoldable pub rows_field : List TaskValue → Members → Checked (List (List ℕ))
rows_field tasks fields = do
  given ← required [] (codes "table") fields
  items ← array_of (codes "table") given
  each (alone (row_at tasks)) (codes "table") [] items

-- ---- the rules of the table

abbrev pub task_path : ℕ → List ℕ
task_path task = field (element (codes "task") task) (codes "writes")

abbrev pub write_path : ℕ → ℕ → List ℕ
write_path task write = element (task_path task) write

-- where a table breaks a rule. The table as a function never answers want of memory.
abbrev pub path_of_fault : TableFault → List ℕ
path_of_fault table.Tasks = codes "task"
path_of_fault (table.Writes task) = task_path task
path_of_fault (table.Block task write) = field (write_path task write) (codes "block")
path_of_fault (table.Set task write) = write_path task write
path_of_fault table.Rows = codes "table"
path_of_fault (table.Row row) = element (codes "table") row
path_of_fault table.Memory = []

-- a write without an expression lacks it; every other rule is one of sizes
abbrev pub cause_of_fault : TableFault → Cause
cause_of_fault (table.Set task write) = Missing
cause_of_fault _ = OutOfRange

abbrev pub table_or : List (List TaskValue) → Option TableFault → Checked (List (List TaskValue))
table_or rows None = Ok rows
table_or rows (Some fault) = fails (cause_of_fault fault) (path_of_fault fault)

-- the tasks of each row, over the keys `task` and `table`
unfoldable pub table_field : ℕ → ℕ → Members → Checked (List (List TaskValue))
table_field blocks width fields = do
  tasks ← tasks_field blocks width fields
  places ← rows_field tasks fields
  table_or (map (named_tasks tasks) places) (table_fault blocks tasks places)
