use Rattle.std.proofs.Common.{◌≡◌, ◌-◌, ◌++◌, map}
use Rattle.demo_mission.specs.Demo.{draws, demo_write, number_after}
use Rattle.demo_mission.proofs.tasks.demo_task.Given as goal

abbrev pub invariant-loop-write : goal.invariant-loop-write
invariant-loop-write l =
    (l.writes.items ++ map demo_write (draws (4 - l._write) 128 l.draws.number)
    ≡ map demo_write (draws 4 128 l.initial.draws.number))
    × (number_after (4 - l._write) l.draws.number ≡ number_after 4 l.initial.draws.number)
