use Rattle.demo_mission.proofs.DemoParts.{are_demo_of, parts_make, parts_fit}
use Rattle.demo_mission.proofs.demo.demo_mission.Goals as goal

pub invariant_of-result : goal.invariant_of-result
invariant_of-result c =
    parts_fit c.args.number c.in_ok-initial.initial c.in_ok-table.table c.in_ok-outputs.outputs.items
    c.in_ok-sensors.sensors.items c.in_ok-script.script
    (are_demo_of c.args.number c.in_ok-initial.initial c.in_ok-table.table c.in_ok-outputs.outputs.items
    c.in_ok-sensors.sensors.items c.in_ok-script.script
    c.of-draws.result.number c.sensor_rows.new.draws.number c.demo_table.new.draws.number c.below-block.result
    c.of-draws.ensures c.in_ok-sensors.ensures.number c.in_ok-table.ensures.number
    c.in_ok-initial.ensures c.in_ok-table.ensures.table c.below-block.ensures.drawn c.in_ok-outputs.ensures
    c.in_ok-sensors.ensures.rows c.in_ok-script.ensures)

pub returns : goal.returns
returns c =
    parts_make c.args.number c.in_ok-initial.initial c.in_ok-table.table c.in_ok-outputs.outputs.items
    c.in_ok-sensors.sensors.items c.in_ok-script.script
    (are_demo_of c.args.number c.in_ok-initial.initial c.in_ok-table.table c.in_ok-outputs.outputs.items
    c.in_ok-sensors.sensors.items c.in_ok-script.script
    c.of-draws.result.number c.sensor_rows.new.draws.number c.demo_table.new.draws.number c.below-block.result
    c.of-draws.ensures c.in_ok-sensors.ensures.number c.in_ok-table.ensures.number
    c.in_ok-initial.ensures c.in_ok-table.ensures.table c.below-block.ensures.drawn c.in_ok-outputs.ensures
    c.in_ok-sensors.ensures.rows c.in_ok-script.ensures)
