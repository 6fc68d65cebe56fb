use Rattle.std.proofs.Common.{◌≡◌, ℕ, ◌+◌, ◌*◌, ◌<◌, ◌≤◌, ◌||◌, true, List, length, take, drop}
use Rattle.task_table.specs.TableFaults.{first_fault, task_fault}
use Rattle.task_table.proofs.checks.tasks_fault.Given as goal

abbrev pub invariant-loop-number : goal.invariant-loop-number
invariant-loop-number l =
    first_fault (task_fault l.blocks) 0 l.tasks ≡ first_fault (task_fault l.blocks) l.number (drop l.number l.tasks)
