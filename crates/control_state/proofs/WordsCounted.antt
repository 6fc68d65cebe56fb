-- Counting what the words tell.
use Rattle.std.proofs.Common.{◌≡◌, ℕ, zero, suc, ◌+◌, Bool, cond, List, [], ◌∷◌, get_or, None, Some, refl, sym, ap, ◌∙◌, arith}
use Rattle.std.specs.Prelude.{count_by}
use Rattle.guards_model.specs.Channels.{place_or}
use Rattle.guards_model.specs.Frames.{SourceValue}
use Rattle.guards_model.specs.Diagnosis.{Agreed}
use Rattle.guards_model.specs.Voting.{present}
use Rattle.std.proofs.lemmas.List.Sums.{sum_by-cons}
use Rattle.control_state.specs.Telling.{tells_if}

pub count_told : (tells : SourceValue → Bool) (agreed : Agreed) →
    count_by (tells_if tells) agreed ≡ count_by tells (present agreed)
count_told tells [] = refl
count_told tells (None ∷ agreed) =
    let step : count_by (tells_if tells) (None ∷ agreed) ≡ 0 + count_by (tells_if tells) agreed =
    sum_by-cons (λ o. cond (tells_if tells o) 1 0) None agreed in
    let rest : 0 + count_by (tells_if tells) agreed ≡ count_by tells (present agreed) =
    omega (arith, count_told tells agreed) in
    step ∙ rest
count_told tells (Some w ∷ agreed) =
    let n : ℕ = cond (tells w) 1 0 in
    let step : count_by (tells_if tells) (Some w ∷ agreed) ≡ n + count_by (tells_if tells) agreed =
    sum_by-cons (λ o. cond (tells_if tells o) 1 0) (Some w) agreed in
    let other : count_by tells (w ∷ present agreed) ≡ n + count_by tells (present agreed) =
    sum_by-cons (λ o. cond (tells o) 1 0) w (present agreed) in
    step ∙ ap (λ k. n + k) (count_told tells agreed) ∙ sym other

-- a place of a table of numbers
pub number_at : (xs : List ℕ) (j : ℕ) → get_or xs j 0 ≡ place_or xs j 0
number_at [] j = refl
number_at (x ∷ xs) zero = refl
number_at (x ∷ xs) (suc j) = number_at xs j
