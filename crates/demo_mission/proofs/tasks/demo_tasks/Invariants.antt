use Rattle.std.proofs.Common.{◌≡◌, ◌-◌, ◌*◌, ◌++◌}
use Rattle.demo_mission.specs.Demo.{demo_tasks, number_after}
use Rattle.demo_mission.proofs.tasks.demo_tasks.Given as goal

abbrev pub invariant-loop-number : goal.invariant-loop-number
invariant-loop-number l =
    (l.tasks.items ++ demo_tasks (4 - l.number) l.number l.draws.number ≡ demo_tasks 4 0 l.initial.draws.number)
    × (number_after (4 * (4 - l.number)) l.draws.number ≡ number_after (4 * 4) l.initial.draws.number)
