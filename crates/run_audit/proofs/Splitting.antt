-- The lines of an input before a place are no marks, so what is before the first mark of the rest comes behind them.
use Rattle.std.proofs.Common.{◌≡◌, ℕ, zero, suc, ◌-◌, ◌==◌, Bool, true, false, cond, List, [], ◌∷◌, ◌++◌, length, refl, sym, ap, ◌∙◌, arith, append_assoc, append-nil}
use Rattle.std.proofs.lemmas.List.{length-append}
use Rattle.std.specs.Prelude.{take, drop}
use Rattle.std.specs.List.{concat, onto_first}
use Rattle.guards_audit.specs.Lines.{lines_in}
use Rattle.run_audit.specs.Marks.{is_mark, lines_before, lines_after, mission_bytes, trace_bytes}

-- the lines of a text make it again
onto_back : (b : ℕ) (lines : List (List ℕ)) → concat (onto_first b lines) ≡ b ∷ concat lines
onto_back b [] = refl
onto_back b (line ∷ lines) = refl

back_by : (b : ℕ) (text : List ℕ) (is : Bool) → (b == 10) ≡ is → concat (lines_in text) ≡ text →
    concat (lines_in (b ∷ text)) ≡ b ∷ text
back_by b text true e h =
    ap (λ t. concat (cond t ((10 ∷ []) ∷ lines_in text) (onto_first b (lines_in text)))) e ∙ ap (λ xs. 10 ∷ xs) h
    ∙ ap (λ c. c ∷ text) (sym (the_end e))
  where
    the_end : (b == 10) ≡ true → b ≡ 10
    the_end k = grind (arith, k)
back_by b text false e h =
    ap (λ t. concat (cond t ((10 ∷ []) ∷ lines_in text) (onto_first b (lines_in text)))) e ∙ onto_back b (lines_in text)
    ∙ ap (λ xs. b ∷ xs) h

pub lines_back : (text : List ℕ) → concat (lines_in text) ≡ text
lines_back [] = refl
lines_back (b ∷ text) = back_by b text (b == 10) refl (lines_back text)

-- ---- at a mark

pub at_mark : (text line more : List ℕ) → lines_in text ≡ line ∷ lines_in more → is_mark line ≡ true →
    (mission_bytes text ≡ []) × (trace_bytes text ≡ more)
unfolding mission_bytes trace_bytes
at_mark text line more h k = (
  ap (λ ls. concat (lines_before ls)) h ∙ ap (λ b. concat (cond b [] (line ∷ lines_before (lines_in more)))) k,
  ap (λ ls. concat (lines_after ls)) h ∙ ap (λ b. concat (cond b (lines_in more) (lines_after (lines_in more)))) k
      ∙ lines_back more,
)

-- at any other line
pub past_line : (text line more : List ℕ) → lines_in text ≡ line ∷ lines_in more → is_mark line ≡ false →
    (mission_bytes text ≡ line ++ mission_bytes more) × (trace_bytes text ≡ trace_bytes more)
unfolding mission_bytes trace_bytes
past_line text line more h k = (
  ap (λ ls. concat (lines_before ls)) h ∙ ap (λ b. concat (cond b [] (line ∷ lines_before (lines_in more)))) k,
  ap (λ ls. concat (lines_after ls)) h ∙ ap (λ b. concat (cond b (lines_in more) (lines_after (lines_in more)))) k,
)

pub no_bytes : (mission_bytes [] ≡ []) × (trace_bytes [] ≡ [])
unfolding mission_bytes trace_bytes
no_bytes = (refl, refl)

-- ---- where the input is split

take_front : (before rest : List ℕ) → take (length (before ++ rest) - length rest) (before ++ rest) ≡ before
take_front before rest =
    let size : length (before ++ rest) - length rest ≡ length before = omega (arith, length-append before rest) in
    ap (λ n. take n (before ++ rest)) size ∙ take_all before rest
  where
    take_all : (xs ys : List ℕ) → take (length xs) (xs ++ ys) ≡ xs
    take_all [] ys = refl
    take_all (x ∷ xs) ys = ap (λ zs. x ∷ zs) (take_all xs ys)

pub parts_back : (n : ℕ) (xs : List ℕ) → xs ≡ take n xs ++ drop n xs
parts_back zero xs = refl
parts_back (suc n) [] = refl
parts_back (suc n) (x ∷ xs) = ap (λ ys. x ∷ ys) (parts_back n xs)

-- what is known of the rest: no line before it is a mark
abbrev pub IsAfter : List ℕ → List ℕ → Type 0
IsAfter input rest =
    (before : List ℕ) × (input ≡ before ++ rest) × (mission_bytes input ≡ before ++ mission_bytes rest)
    × (trace_bytes input ≡ trace_bytes rest)

pub cut_here : (input rest line more : List ℕ) → IsAfter input rest → lines_in rest ≡ line ∷ lines_in more →
    is_mark line ≡ true →
    (take (length input - length rest) input ≡ mission_bytes input) × (more ≡ trace_bytes input)
cut_here input rest line more h cut mark =
    let at = at_mark rest line more cut mark in (
      ap (λ xs. take (length xs - length rest) xs) h.1 ∙ take_front h.0 rest
          ∙ sym (h.2 ∙ ap (λ xs. h.0 ++ xs) at.0 ∙ append-nil h.0),
      sym (h.3 ∙ at.1),
    )

pub goes_on : (input rest line more : List ℕ) → IsAfter input rest → rest ≡ line ++ more →
    lines_in rest ≡ line ∷ lines_in more → is_mark line ≡ false → IsAfter input more
goes_on input rest line more h whole cut other =
    let past = past_line rest line more cut other in (
      h.0 ++ line,
      h.1 ∙ ap (λ xs. h.0 ++ xs) whole ∙ sym (append_assoc h.0 line more),
      h.2 ∙ ap (λ xs. h.0 ++ xs) past.0 ∙ sym (append_assoc h.0 line (mission_bytes more)),
      h.3 ∙ past.1,
    )

nothing : (xs : List ℕ) → length xs ≡ 0 → xs ≡ []
nothing [] h = refl
nothing (x ∷ xs) h = absurd (omega (arith, h))

pub at_end : (input rest : List ℕ) → IsAfter input rest → length rest ≡ 0 →
    (input ≡ mission_bytes input) × (rest ≡ trace_bytes input)
at_end input rest h few =
    let none : rest ≡ [] = nothing rest few in (
      h.1 ∙ ap (λ xs. h.0 ++ xs) (none ∙ sym (ap mission_bytes none ∙ no_bytes.0)) ∙ sym h.2,
      none ∙ sym (h.3 ∙ ap trace_bytes none ∙ no_bytes.1),
    )
