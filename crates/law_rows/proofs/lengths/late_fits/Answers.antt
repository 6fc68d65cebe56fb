use Rattle.std.proofs.Common.{◌≡◌, Some, refl, arith}
use Rattle.guards_model.proofs.OnLiterals.{model_on_literals}
use Rattle.guards_model.specs.Missions.{IsMission}
use Rattle.guards_model.specs.Tags.{tags_of, tags_noted, tags_closed, plan_by_tags}
use Rattle.recovery_laws.specs.Lengths.{counted_length, transfer_length}
use Rattle.recovery_laws.proofs.Counted.{fewer_counted}
use Rattle.recovery_laws.proofs.Endless.{first_if, ends_if_first}
use Rattle.law_rows.specs.Missions.{late_fit}
use Rattle.law_rows.proofs.lengths.late_fits.Goals as goal

ten : transfer_length late_fit 0 ≡ Some 10
unfolding counted_length tags_of tags_noted tags_closed plan_by_tags
ten = fewer_counted late_fit 0 10 10 (omega arith) refl

is_mission : IsMission late_fit
unfolding model_on_literals
is_mission = record {
  rules = refl;
  cycles = refl;
  width = refl;
  return_after = refl;
  initial = refl;
  table = refl;
  outputs = refl;
  sensors = refl;
  script = refl;
  actuator = refl;
}

pub returns-clause-mission : goal.returns-clause-mission
returns-clause-mission c = is_mission

pub returns-clause-bound : goal.returns-clause-bound
returns-clause-bound c = refl

pub returns-clause-pairs : goal.returns-clause-pairs
returns-clause-pairs c = refl

pub returns-clause-length : goal.returns-clause-length
returns-clause-length c = ten

pub returns-clause-ends : goal.returns-clause-ends
returns-clause-ends c = ends_if_first late_fit 0 is_mission 10 (first_if late_fit 0 10 ten).0
