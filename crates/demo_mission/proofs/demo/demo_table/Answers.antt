use Rattle.std.proofs.Common.{◌∙◌}
use Rattle.task_table.specs.Tables.{places_of}
use Rattle.task_table.specs.TableFaults.{table_fault}
use Rattle.demo_mission.proofs.DemoParts.{no_table_fault, tasks_fit, tasks_named, table_is, answered_ok}
use Rattle.demo_mission.proofs.demo.demo_table.Goals as goal

pub new-requires-clause-fit : goal.new-requires-clause-fit
new-requires-clause-fit c = rw c.in_ok-tasks.ensures.tasks (tasks_fit 4 0 c.args.draws.now.number)

pub new-requires-clause-named : goal.new-requires-clause-named
new-requires-clause-named c =
    rw (c.in_ok-tasks.ensures.tasks, c.in_ok-rows.ensures) (tasks_named c.args.draws.now.number)

pub made-requires : goal.made-requires
made-requires c =
    answered_ok _ (table_fault 128 c.in_ok-tasks.tasks.items (places_of c.in_ok-rows.rows.items)) c.new.result
    (rw (c.in_ok-tasks.ensures.tasks, c.in_ok-rows.ensures) (no_table_fault c.args.draws.now.number))
    c.new.ensures.answer

pub returns-clause-table : goal.returns-clause-table
returns-clause-table c =
    let answer = rw c.made.ensures at c.new.ensures.answer in
    answer.1 ∙ rw (c.in_ok-tasks.ensures.tasks, c.in_ok-rows.ensures) (table_is c.args.draws.now.number)
