use Rattle.std.proofs.Common.{◌≡◌, ℕ, ◌+◌, ◌*◌, ◌<◌, ◌≤◌, ◌||◌, true, List, length, take, drop}
use Rattle.std.specs.Prelude.{map}
use Rattle.guards_model.specs.JoinBound.{most_blocks}
use Rattle.task_table.specs.Tables.{named_tasks, places_of}
use Rattle.task_table.proofs.row.most_of_rows.Given as goal

abbrev pub invariant-loop-row : goal.invariant-loop-row
invariant-loop-row l = l.most ≡ most_blocks (map (named_tasks l.tasks) (take l.row-index (places_of l.rows)))
