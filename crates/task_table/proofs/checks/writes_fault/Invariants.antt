use Rattle.std.proofs.Common.{◌≡◌, ℕ, ◌+◌, ◌*◌, ◌<◌, ◌≤◌, ◌||◌, true, List, length, take, drop}
use Rattle.task_table.specs.TableFaults.{first_fault, write_fault}
use Rattle.task_table.proofs.checks.writes_fault.Given as goal

abbrev pub invariant-loop-number : goal.invariant-loop-number
invariant-loop-number l =
    first_fault (write_fault l.blocks l.task) 0 l.writes
    ≡ first_fault (write_fault l.blocks l.task) l.number (drop l.number l.writes)
