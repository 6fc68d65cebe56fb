use Rattle.std.proofs.Common.{refl, arith}
use Rattle.guards_model.proofs.OnLiterals.{model_on_literals}
use Rattle.guards_model.specs.Tags.{tags_of, tags_noted, tags_closed, plan_by_tags}
use Rattle.recovery_laws.specs.Lengths.{counted_length, GoesRound}
use Rattle.recovery_laws.proofs.Counted.{never_fits, has_no_length}
use Rattle.recovery_laws.proofs.Endless.{never_if_round}
use Rattle.law_rows.specs.Missions.{four_writes}
use Rattle.law_rows.proofs.lengths.four_writes_never_end.Goals as goal

round : GoesRound four_writes 0 3 4
unfolding counted_length tags_of tags_noted tags_closed plan_by_tags
round = record { some = omega arith; rows = refl; again = refl; unfit = refl }

pub returns-clause-mission : goal.returns-clause-mission
unfolding model_on_literals
returns-clause-mission c =
    record {
      rules = refl;
      cycles = refl;
      width = refl;
      return_after = refl;
      initial = refl;
      table = refl;
      outputs = refl;
      sensors = refl;
      script = refl;
      actuator = refl;
    }

pub returns-clause-bound : goal.returns-clause-bound
returns-clause-bound c = refl

pub returns-clause-round : goal.returns-clause-round
returns-clause-round c = round

pub returns-clause-never : goal.returns-clause-never
returns-clause-never c n = never_fits four_writes 0 3 4 round n

pub returns-clause-length : goal.returns-clause-length
returns-clause-length c = has_no_length four_writes 0 3 4 round

pub returns-clause-decided : goal.returns-clause-decided
returns-clause-decided c = never_if_round four_writes 0 3 4 round
