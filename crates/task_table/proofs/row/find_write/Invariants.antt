use Rattle.std.proofs.Common.{◌≡◌, ℕ, ◌+◌, ◌*◌, ◌<◌, ◌≤◌, ◌||◌, true, List, length, take, drop}
use Rattle.std.specs.Prelude.{slice_get}
use Rattle.task_table.proofs.RowWrites.{named_writes}
use Rattle.task_table.proofs.row.find_write.Given as goal

abbrev pub invariant-loop-place : goal.invariant-loop-place
invariant-loop-place l = slice_get (named_writes l.tasks l.row) l.k
    ≡ slice_get (named_writes l.tasks (drop l.place-index l.row)) l.left
