use Rattle.std.proofs.Common.{◌≡◌, Some, refl, arith}
use Rattle.guards_model.proofs.OnLiterals.{model_on_literals}
use Rattle.guards_model.specs.Tags.{tags_of, tags_noted, tags_closed, plan_by_tags}
use Rattle.model_rows.specs.Restored as row
use Rattle.guards_model.specs.Missions.{IsMission}
use Rattle.recovery_laws.specs.Lengths.{counted_length, transfer_length}
use Rattle.recovery_laws.proofs.Counted.{fewer_counted}
use Rattle.recovery_laws.proofs.Endless.{first_if, ends_if_first}
use Rattle.law_rows.proofs.lengths.crash_and_return.Goals as goal

pub returns-clause-bound : goal.returns-clause-bound
returns-clause-bound c = refl

three : transfer_length row.mission 0 ≡ Some 3
unfolding counted_length tags_of tags_noted tags_closed plan_by_tags
three = fewer_counted row.mission 0 3 3 (omega arith) refl

is_mission : IsMission row.mission
unfolding model_on_literals
is_mission = record {
  rules = refl;
  cycles = refl;
  width = refl;
  return_after = refl;
  initial = refl;
  table = refl;
  outputs = refl;
  sensors = refl;
  script = refl;
  actuator = refl;
}

pub returns-clause-length : goal.returns-clause-length
returns-clause-length c = three

pub returns-clause-ends : goal.returns-clause-ends
returns-clause-ends c = ends_if_first row.mission 0 is_mission 3 (first_if row.mission 0 3 three).0
