use Rattle.std.proofs.Common.{◌≡◌, ◌++◌, map, drop}
use Rattle.guards_base.specs.Padding.{padded}
use Rattle.demo_mission.specs.Demo.{in_pairs}
use Rattle.demo_mission.proofs.sensors.pairs.Given as goal

abbrev pub invariant-loop-channel : goal.invariant-loop-channel
invariant-loop-channel l =
    l.row.items ++ map (padded 4) (in_pairs (drop l.channel l.firsts) (drop l.channel l.seconds))
    ≡ map (padded 4) (in_pairs l.firsts l.seconds)
