use Rattle.demo_mission.proofs.Drawn.{task_more, tasks_end, numbers_more, numbers_end}
use Rattle.demo_mission.proofs.tasks.demo_tasks.Goals as goal

pub loop-number-preserved : goal.loop-number-preserved
loop-number-preserved c =
    let n = c.loop-number.number in
    let x = c.loop-number.draws.number in
    rw (c.in_ok-push.ensures.pushed, c.in_ok-demo_task.ensures.number) (
      task_more 4 n x c.loop-number.tasks.items _ c.in_ok-demo_task.field-0 c.loop-number-test.true
          c.in_ok-demo_task.ensures.task c.loop-number.invariant.0,
      numbers_more 4 4 n x _ c.loop-number-test.true c.loop-number.invariant.1,
    )

pub returns-clause-tasks : goal.returns-clause-tasks
returns-clause-tasks c = tasks_end 4 c.loop-number.number c.loop-number.draws.number c.loop-number.tasks.items _
    c.loop-number-test.false c.loop-number.invariant.0

pub returns-clause-number : goal.returns-clause-number
returns-clause-number c =
    numbers_end 4 4 c.loop-number.number c.loop-number.draws.number _ c.loop-number-test.false c.loop-number.invariant.1
