use Rattle.demo_mission.proofs.Drawn.{row_more, rows_end, numbers_more, numbers_end}
use Rattle.demo_mission.proofs.sensors.sensor_rows.Goals as goal

pub loop-row-preserved : goal.loop-row-preserved
loop-row-preserved c =
    let i = c.loop-row._row in
    let x = c.loop-row.draws.number in
    rw (c.in_ok-push.ensures.pushed, c.in_ok-sensor_row.ensures.number) (
      row_more 8 i x c.loop-row.rows.items _ c.in_ok-sensor_row.field-0 c.loop-row-test.true
          c.in_ok-sensor_row.ensures.row c.loop-row.invariant.0,
      numbers_more 16 8 i x _ c.loop-row-test.true c.loop-row.invariant.1,
    )

pub returns-clause-rows : goal.returns-clause-rows
returns-clause-rows c = rows_end 8 c.loop-row._row c.loop-row.draws.number c.loop-row.rows.items _ c.loop-row-test.false
    c.loop-row.invariant.0

pub returns-clause-number : goal.returns-clause-number
returns-clause-number c =
    numbers_end 16 8 c.loop-row._row c.loop-row.draws.number _ c.loop-row-test.false c.loop-row.invariant.1
