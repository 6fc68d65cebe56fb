use Rattle.std.proofs.Common.{◌≡◌, take}
use Rattle.std.specs.Prelude.{flat_map}
use Rattle.task_table.specs.Tables.{tasks_in_row}
use Rattle.check_text.specs.Check.{task_text}
use Rattle.check_text.proofs.rows.row_text.Given as goal

-- the text has the lines of the tasks before this one
abbrev pub invariant-loop-place : goal.invariant-loop-place
invariant-loop-place l = l.text ≡ flat_map (task_text l.row) (take l.place (tasks_in_row l.table.rows l.row))
