use Rattle.std.proofs.Common.{◌≡◌, ℕ, ◌+◌, ◌*◌, ◌<◌, ◌≤◌, ◌||◌, true, List, length, take, drop}
use Rattle.task_table.specs.TableFaults.{first_fault, row_fault}
use Rattle.task_table.specs.Tables.{places_of}
use Rattle.task_table.proofs.checks.rows_fault.Given as goal

abbrev pub invariant-loop-number : goal.invariant-loop-number
invariant-loop-number l =
    first_fault row_fault 0 (places_of l.rows) ≡ first_fault row_fault l.number (drop l.number (places_of l.rows))
