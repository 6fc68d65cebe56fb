-- The first line of a text.
use Rattle.std.proofs.Common.{◌≡◌, ℕ, zero, suc, ◌+◌, ◌==◌, ◌<◌, Bool, true, false, cond, List, [], ◌∷◌, length, refl, sym, ap, subst, ◌∙◌, arith, get_or}
use Rattle.std.specs.Prelude.{take, drop}
use Rattle.std.specs.List.{onto_first}
use Rattle.guards_audit.specs.Lines.{lines_in}

other : (b : ℕ) (rest : List ℕ) (is : Bool) → (b == 10) ≡ is → (b ≡ 10 → ⊥) →
    lines_in (b ∷ rest) ≡ onto_first b (lines_in rest)
other b rest true e h = absurd (h (grind (arith, e)))
other b rest false e h = ap (λ t. cond t ((10 ∷ []) ∷ lines_in rest) (onto_first b (lines_in rest))) e

-- a text without a line end is one line
pub no_end : (text : List ℕ) → 0 < length text → ((k : ℕ) → k < length text → get_or text k 0 ≡ 10 → ⊥) →
    lines_in text ≡ text ∷ []
no_end [] some h = absurd (omega arith)
no_end (b ∷ []) some h = other b [] (b == 10) refl (h 0 (omega arith))
no_end (b ∷ x ∷ text) some h =
    other b (x ∷ text) (b == 10) refl (h 0 (omega arith))
    ∙ ap (onto_first b) (no_end (x ∷ text) (omega arith) (λ k low e. h (suc k) (omega arith) e))

-- the first line ends with the first line end
pub first_end : (text : List ℕ) (n : ℕ) → n < length text → get_or text n 0 ≡ 10 →
    ((k : ℕ) → k < n → get_or text k 0 ≡ 10 → ⊥) →
    lines_in text ≡ take (suc n) text ∷ lines_in (drop (suc n) text)
first_end [] n low is h = absurd (omega arith)
first_end (b ∷ text) zero low is h = ap (λ c. lines_in (c ∷ text)) is ∙ ap (λ c. (c ∷ []) ∷ lines_in text) (sym is)
first_end (b ∷ text) (suc n) low is h =
    other b text (b == 10) refl (h 0 (omega arith))
    ∙ ap (onto_first b) (first_end text n (omega arith) is (λ k small e. h (suc k) (omega arith) e))

pub first_line_ends : (text : List ℕ) (n : ℕ) → n < length text → get_or text n 0 ≡ 10 →
    ((k : ℕ) → k < n → get_or text k 0 ≡ 10 → ⊥) →
    lines_in text ≡ take (n + 1) text ∷ lines_in (drop (n + 1) text)
first_line_ends text n low is h = let e : suc n ≡ n + 1 = omega arith in
    subst (λ m. lines_in text ≡ take m text ∷ lines_in (drop m text)) e (first_end text n low is h)

take_whole : (text : List ℕ) → take (length text) text ≡ text
take_whole [] = refl
take_whole (b ∷ text) = ap (λ x. b ∷ x) (take_whole text)

drop_whole : (text : List ℕ) → drop (length text) text ≡ []
drop_whole [] = refl
drop_whole (b ∷ text) = drop_whole text

pub one_line : (text : List ℕ) → 0 < length text → ((k : ℕ) → k < length text → get_or text k 0 ≡ 10 → ⊥) →
    lines_in text ≡ take (length text) text ∷ lines_in (drop (length text) text)
one_line text some h = no_end text some h
    ∙ (let a = take_whole text in let b = drop_whole text in λ i. sym a i ∷ lines_in (sym b i))
