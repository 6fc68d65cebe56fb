use Rattle.std.proofs.Common.{◌∙◌, ap, refl}
use Rattle.demo_mission.specs.Demo.{demo_write, demo_task}
use Rattle.demo_mission.proofs.Drawn.{draw_more, draws_end, number_more, number_ends}
use Rattle.demo_mission.proofs.tasks.demo_task.Goals as goal

pub loop-write-preserved : goal.loop-write-preserved
loop-write-preserved c =
    let i = c.loop-write._write in
    let x = c.loop-write.draws.number in
    rw (c.in_ok-push.ensures.pushed, c.below.ensures.number) (
      draw_more demo_write 128 4 i x c.loop-write.writes.items _ _ c.loop-write-test.true
          (c.in_ok-demo_write.ensures ∙ ap demo_write c.below.ensures.drawn) c.loop-write.invariant.0,
      number_more 4 i x _ c.loop-write-test.true c.loop-write.invariant.1,
    )

pub returns-clause-task : goal.returns-clause-task
unfolding demo_task
returns-clause-task c =
    let writes = draws_end demo_write 128 4 c.loop-write._write c.loop-write.draws.number c.loop-write.writes.items _
    c.loop-write-test.false c.loop-write.invariant.0 in
    rw (writes, c.from_string-name.ensures, c.in_ok-format.ensures.ok) refl

pub returns-clause-number : goal.returns-clause-number
returns-clause-number c =
    number_ends 4 c.loop-write._write c.loop-write.draws.number _ c.loop-write-test.false c.loop-write.invariant.1
