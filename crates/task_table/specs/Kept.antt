-- What a table keeps of its tasks and rows.
use Rattle.std.specs.Prelude.{◌≡◌, true, ℕ, ◌≤◌, List, length, Option, None}
use Rattle.std.specs.List.{list_all}
use Rattle.guards_model.specs.Tasks.{TaskValue}
use Rattle.task_table.specs.TableFaults.{table_fault}
use Rattle.task_table.specs.Tables.{expressions_fit, names_tasks}

-- They break no rule, and what they name is there.
pub record IsTableKept (tasks : List TaskValue) (rows : List (List ℕ)) (blocks width : ℕ) : Type 0 where
  pub faultless : table_fault blocks tasks rows ≡ None
  pub narrow : width ≤ 4
  pub fit : list_all (expressions_fit blocks width) tasks ≡ true
  pub named : list_all (names_tasks (length tasks)) rows ≡ true
