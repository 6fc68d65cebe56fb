use Rattle.std.proofs.Common.{true, false, [], ◌∷◌, refl, arith}
use Rattle.guards_model.specs.declared.Law.TheVariants.{Multiply, Subtract}
use Rattle.guards_model.specs.Missions.{IsMission}
use Rattle.guards_model.proofs.OnLiterals.{model_on_literals}
use Rattle.recovery_laws.proofs.LeastPeriods.{least_is, none_if_undecayed}
use Rattle.law_rows.specs.LawsOfDecay.{decaying}
use Rattle.law_rows.proofs.judgements.least_periods.Goals as goal

by_half : IsMission (decaying Multiply 32768 0)
unfolding model_on_literals
by_half = record {
  rules = refl;
  cycles = refl;
  width = refl;
  return_after = refl;
  initial = refl;
  table = refl;
  outputs = refl;
  sensors = refl;
  script = refl;
  actuator = refl;
}

by_quarter : IsMission (decaying Subtract 0 16384)
unfolding model_on_literals
by_quarter = record {
  rules = refl;
  cycles = refl;
  width = refl;
  return_after = refl;
  initial = refl;
  table = refl;
  outputs = refl;
  sensors = refl;
  script = refl;
  actuator = refl;
}

undecayed : IsMission (decaying Multiply 65536 0)
unfolding model_on_literals
undecayed = record {
  rules = refl;
  cycles = refl;
  width = refl;
  return_after = refl;
  initial = refl;
  table = refl;
  outputs = refl;
  sensors = refl;
  script = refl;
  actuator = refl;
}

pub returns-clause-half : goal.returns-clause-half
returns-clause-half c = least_is (decaying Multiply 32768 0) by_half 1 64 131071 (omega arith) refl (omega arith)
    (true ∷ true ∷ [], refl, omega arith)

pub returns-clause-quarter : goal.returns-clause-quarter
returns-clause-quarter c =
    least_is (decaying Subtract 0 16384) by_quarter 4 64 65536 (omega arith) refl (omega arith) (
      true ∷ false ∷ false ∷ false ∷ true ∷ false ∷ false ∷ false ∷ true ∷ false ∷ false ∷ false ∷ true ∷ false ∷ false
          ∷ false ∷ true ∷ [],
      refl,
      omega arith,
    )

pub returns-clause-whole : goal.returns-clause-whole
returns-clause-whole c = none_if_undecayed (decaying Multiply 65536 0) undecayed refl
