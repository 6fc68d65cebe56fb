use Rattle.std.proofs.Common.{◌≡◌, ℕ, ◌+◌, ◌*◌, ◌<◌, ◌≤◌, ◌||◌, true, List, length, take, drop}
use Rattle.task_table.proofs.RowWrites.{named_writes}
use Rattle.task_table.proofs.row.count_writes.Given as goal

abbrev pub invariant-loop-place : goal.invariant-loop-place
invariant-loop-place l = (l.count ≡ length (named_writes l.tasks (take l.place-index l.row)))
    × (l.count ≤ 16 * l.place-index)
