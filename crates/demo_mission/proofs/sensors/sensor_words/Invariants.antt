use Rattle.std.proofs.Common.{◌≡◌, ◌-◌, ◌+◌, ◌++◌, map}
use Rattle.demo_mission.specs.Demo.{draws, number_after}
use Rattle.demo_mission.proofs.sensors.sensor_words.Given as goal

abbrev pub invariant-loop-channel : goal.invariant-loop-channel
invariant-loop-channel l =
    (l.words.items ++ map (λ more. l.base + more) (draws (7 - l._channel) 5 l.draws.number)
    ≡ map (λ more. l.base + more) (draws 7 5 l.initial.draws.number))
    × (number_after (7 - l._channel) l.draws.number ≡ number_after 7 l.initial.draws.number)
