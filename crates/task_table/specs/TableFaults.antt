-- The first rule that tasks and rows break, if any.
use Rattle.std.specs.Prelude.{ℕ, ◌+◌, not, nat_lt, nat_le, List, [], ◌∷◌, length, Option, Some, None, is_some, if◌then◌else◌}
use Rattle.std.specs.List.{list_any}
use Rattle.guards_model.specs.Missions.{within}
use Rattle.guards_model.specs.Tasks.{WriteValue, TaskValue}
use Rattle.task_table.specs.declared.fault.TableFault.{TableFault}
use Rattle.task_table.specs.declared.fault.TableFault.TheVariants.{Tasks, Writes, Block, Set, Rows, Row}

-- the first fault, or else the second
abbrev pub fault_or : Option TableFault → Option TableFault → Option TableFault
fault_or (Some fault) later = Some fault
fault_or None later = later

-- the fault of the first element that has one; the elements are numbered from a number on
abbrev pub first_fault : {A : Type 0} → (ℕ → A → Option TableFault) → ℕ → List A → Option TableFault
first_fault check n [] = None
first_fault check n (x ∷ xs) = fault_or (check n x) (first_fault check (n + 1) xs)

-- a write names a block that is there, and has an expression
abbrev pub write_fault : ℕ → ℕ → ℕ → WriteValue → Option TableFault
write_fault blocks task n write =
    if nat_lt write.block blocks then (if list_any is_some write.set then None else Some (Set task n))
    else Some (Block task n)

-- a task has 1 to 16 writes
abbrev pub task_fault : ℕ → ℕ → TaskValue → Option TableFault
task_fault blocks n task =
    if within 1 16 (length task.writes) then first_fault (write_fault blocks n) 0 task.writes else Some (Writes n)

-- a row has at most 16 tasks, which it names by their places
abbrev pub row_fault : ℕ → List ℕ → Option TableFault
row_fault n row = if nat_le (length row) 16 then None else Some (Row n)

-- there are 1 to 64 tasks, and 1 to 16 rows
unfoldable pub table_fault : ℕ → List TaskValue → List (List ℕ) → Option TableFault
table_fault blocks tasks rows =
    if within 1 64 (length tasks)
    then fault_or (first_fault (task_fault blocks) 0 tasks)
    (if within 1 16 (length rows) then first_fault row_fault 0 rows else Some Rows)
    else Some Tasks
