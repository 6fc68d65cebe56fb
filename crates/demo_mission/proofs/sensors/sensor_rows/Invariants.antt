use Rattle.std.proofs.Common.{◌≡◌, ◌-◌, ◌*◌, ◌++◌, map}
use Rattle.guards_base.specs.Padding.{padded}
use Rattle.mission_type.specs.Parts.{rows_of}
use Rattle.demo_mission.specs.Demo.{sensor_rows, number_after}
use Rattle.demo_mission.proofs.sensors.sensor_rows.Given as goal

abbrev pub invariant-loop-row : goal.invariant-loop-row
invariant-loop-row l =
    (rows_of l.rows.items ++ map (map (padded 4)) (sensor_rows (8 - l._row) l.draws.number)
    ≡ map (map (padded 4)) (sensor_rows 8 l.initial.draws.number))
    × (number_after (16 * (8 - l._row)) l.draws.number ≡ number_after (16 * 8) l.initial.draws.number)
