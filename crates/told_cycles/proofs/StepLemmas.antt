-- Steps that are written as numbers.
use Rattle.std.proofs.Common.{◌≡◌, ℕ, zero, suc, ◌+◌, ◌==◌, List, [], ◌∷◌, length, map, refl, sym, ◌∙◌, arith}
use Rattle.std.specs.Prelude.{count_by}
use Rattle.std.proofs.Math.Dec.{eqb-suc-zero}
use Rattle.guards_model.specs.Records.{actor_of_step}
use Rattle.guards_model.specs.Rounds.{is_sweep, is_task}
use Rattle.guards_model.proofs.Counting.{count-cons, one_if}

zero_task : (s : ℕ) → (s == 0) ≡ is_task (actor_of_step s)
zero_task zero = refl
zero_task (suc s) = eqb-suc-zero s

pub writes_are : (steps : List ℕ) → count_by (λ step. step == 0) steps ≡ count_by is_task (map actor_of_step steps)
writes_are [] = refl
writes_are (s ∷ steps) =
    count-cons (λ step. step == 0) s steps
    ∙ (let a = zero_task s in let b = writes_are steps in λ i. one_if (a i) + b i)
    ∙ sym (count-cons is_task (actor_of_step s) (map actor_of_step steps))

one_of_two : (s : ℕ) → one_if (is_task (actor_of_step s)) + one_if (is_sweep (actor_of_step s)) ≡ 1
unfolding one_if
one_of_two zero = refl
one_of_two (suc s) = refl

pub copies_are : (steps : List ℕ) →
    count_by is_task (map actor_of_step steps) + count_by is_sweep (map actor_of_step steps) ≡ length steps
copies_are [] = refl
copies_are (s ∷ steps) =
    omega (
      arith,
      count-cons is_task (actor_of_step s) (map actor_of_step steps),
      count-cons is_sweep (actor_of_step s) (map actor_of_step steps),
      one_of_two s,
      copies_are steps,
    )
