-- The words of an actuator in eight places.
use Rattle.std.proofs.Common.{◌≡◌, ◌≤◌, ◌-◌, ℕ, zero, suc, ℤ, pos, true, List, [], ◌∷◌, ◌++◌, length, take, drop, replicate, refl, sym, ap, subst, ◌∙◌, arith}
use Rattle.std.specs.Prelude.{◌≤ℤ◌, int_le}
use Rattle.std.specs.Int.Signed.{le_z_yes}
use Rattle.std.specs.List.{list_all}
use Rattle.std.proofs.lemmas.Bool.{eq-eqb}
use Rattle.guards_base.specs.Masks.{both}
use Rattle.guards_base.specs.Padding.{padded}
use Rattle.guards_model.specs.Actuators.{AreForward}
use Rattle.guards_model.specs.Words.{is_word}
use Rattle.guards_model.proofs.Medians.{at_most_if}
use Rattle.mission_text.specs.Actuators.{is_step, are_steps, are_starts}

-- zeros past the first of eight places
zeros_past : (n : ℕ) → n ≤ 8 →
    drop n (pos 0 ∷ pos 0 ∷ pos 0 ∷ pos 0 ∷ pos 0 ∷ pos 0 ∷ pos 0 ∷ pos 0 ∷ []) ≡ replicate (8 - n) (pos 0)
zeros_past zero few = refl
zeros_past (suc zero) few = refl
zeros_past (suc (suc zero)) few = refl
zeros_past (suc (suc (suc zero))) few = refl
zeros_past (suc (suc (suc (suc zero)))) few = refl
zeros_past (suc (suc (suc (suc (suc zero))))) few = refl
zeros_past (suc (suc (suc (suc (suc (suc zero)))))) few = refl
zeros_past (suc (suc (suc (suc (suc (suc (suc zero))))))) few = refl
zeros_past (suc (suc (suc (suc (suc (suc (suc (suc zero)))))))) few = refl
zeros_past (suc (suc (suc (suc (suc (suc (suc (suc (suc n))))))))) few = absurd (omega (arith, few))

pub padded_eight : (xs ys : List ℤ) → length xs ≤ 8 → ys ≡ xs →
    ys ++ drop (length xs) (pos 0 ∷ pos 0 ∷ pos 0 ∷ pos 0 ∷ pos 0 ∷ pos 0 ∷ pos 0 ∷ pos 0 ∷ []) ≡ padded 8 xs
padded_eight xs ys few same =
    ap (λ zs. zs ++ drop (length xs) (pos 0 ∷ pos 0 ∷ pos 0 ∷ pos 0 ∷ pos 0 ∷ pos 0 ∷ pos 0 ∷ pos 0 ∷ [])) same
    ∙ ap (λ rest. xs ++ rest) (zeros_past (length xs) few)

-- the first of a longer list
pub first_back : (xs rest : List ℤ) → take (length xs) (xs ++ rest) ≡ xs
first_back [] rest = refl
first_back (x ∷ xs) rest = ap (λ ys. x ∷ ys) (first_back xs rest)

-- the first of eight zeros
pub zeros_first : (n : ℕ) → n ≤ 8 →
    take n (pos 0 ∷ pos 0 ∷ pos 0 ∷ pos 0 ∷ pos 0 ∷ pos 0 ∷ pos 0 ∷ pos 0 ∷ []) ≡ replicate n (pos 0)
zeros_first zero few = refl
zeros_first (suc zero) few = refl
zeros_first (suc (suc zero)) few = refl
zeros_first (suc (suc (suc zero))) few = refl
zeros_first (suc (suc (suc (suc zero)))) few = refl
zeros_first (suc (suc (suc (suc (suc zero))))) few = refl
zeros_first (suc (suc (suc (suc (suc (suc zero)))))) few = refl
zeros_first (suc (suc (suc (suc (suc (suc (suc zero))))))) few = refl
zeros_first (suc (suc (suc (suc (suc (suc (suc (suc zero)))))))) few = refl
zeros_first (suc (suc (suc (suc (suc (suc (suc (suc (suc n))))))))) few = absurd (omega (arith, few))

step_forward : (z : ℤ) → is_step z ≡ true → pos 0 ≤ℤ z
step_forward z h = at_most_if (pos 0) z (both (is_word z) (int_le (pos 0) z) h).1

-- steps, and zeros past them
pub forward_by : (steps : List ℤ) (past : ℕ) → list_all is_step steps ≡ true →
    AreForward (steps ++ replicate past (pos 0))
forward_by [] zero all k = le_z_yes tt
forward_by [] (suc past) all zero = le_z_yes tt
forward_by [] (suc past) all (suc k) = forward_by [] past all k
forward_by (s ∷ steps) past all zero = step_forward s (both (is_step s) (list_all is_step steps) all).0
forward_by (s ∷ steps) past all (suc k) = forward_by steps past (both (is_step s) (list_all is_step steps) all).1 k

pub forward_padded : (steps places : List ℤ) → places ≡ padded 8 steps → list_all is_step steps ≡ true →
    AreForward places
forward_padded steps places same all = subst AreForward (sym same) (forward_by steps (8 - length steps) all)

-- so many, and each one
pub whole_steps : (outputs : ℕ) (steps first : List ℤ) → first ≡ steps → length steps ≡ outputs →
    list_all is_step steps ≡ true → are_steps outputs first ≡ true
whole_steps outputs steps first same count all = rw (same, eq-eqb (length steps) outputs count, all) refl

pub whole_starts : (outputs : ℕ) (words first : List ℤ) → first ≡ words → length words ≡ outputs →
    list_all is_word words ≡ true → are_starts outputs first ≡ true
whole_starts outputs words first same count all = rw (same, eq-eqb (length words) outputs count, all) refl

zeros_words : (n : ℕ) → list_all is_word (replicate n (pos 0)) ≡ true
unfolding is_word
zeros_words zero = refl
zeros_words (suc n) = zeros_words n

zeros_count : (n : ℕ) → length (replicate n (pos 0)) ≡ n
zeros_count zero = refl
zeros_count (suc n) = ap suc (zeros_count n)

pub zeros_start : (outputs : ℕ) (first : List ℤ) → first ≡ replicate outputs (pos 0) → are_starts outputs first ≡ true
zeros_start outputs first same =
    whole_starts outputs (replicate outputs (pos 0)) first same (zeros_count outputs) (zeros_words outputs)
