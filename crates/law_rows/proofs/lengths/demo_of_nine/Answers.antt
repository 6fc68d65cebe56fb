use Rattle.std.proofs.Common.{refl, arith}
use Rattle.guards_model.specs.Tags.{tags_of, tags_noted, tags_closed, plan_by_tags}
use Rattle.demo_mission.specs.Demo.{next_number, drawn, draws, number_after, demo_task, demo_tasks, demo_mission}
use Rattle.recovery_laws.specs.Lengths.{counted_length}
use Rattle.recovery_laws.proofs.Counted.{fewer_counted}
use Rattle.law_rows.proofs.lengths.demo_of_nine.Goals as goal

pub returns-clause-bound : goal.returns-clause-bound
unfolding next_number drawn draws number_after demo_task demo_tasks demo_mission
returns-clause-bound c = refl

pub returns-clause-row_0 : goal.returns-clause-row_0
unfolding counted_length tags_of tags_noted tags_closed plan_by_tags next_number drawn draws number_after demo_task
    demo_tasks demo_mission
returns-clause-row_0 c = fewer_counted (demo_mission 9) 0 9 9 (omega arith) refl

pub returns-clause-row_1 : goal.returns-clause-row_1
unfolding counted_length tags_of tags_noted tags_closed plan_by_tags next_number drawn draws number_after demo_task
    demo_tasks demo_mission
returns-clause-row_1 c = fewer_counted (demo_mission 9) 1 9 9 (omega arith) refl

pub returns-clause-row_2 : goal.returns-clause-row_2
unfolding counted_length tags_of tags_noted tags_closed plan_by_tags next_number drawn draws number_after demo_task
    demo_tasks demo_mission
returns-clause-row_2 c = fewer_counted (demo_mission 9) 2 9 9 (omega arith) refl

pub returns-clause-row_3 : goal.returns-clause-row_3
unfolding counted_length tags_of tags_noted tags_closed plan_by_tags next_number drawn draws number_after demo_task
    demo_tasks demo_mission
returns-clause-row_3 c = fewer_counted (demo_mission 9) 3 9 9 (omega arith) refl
