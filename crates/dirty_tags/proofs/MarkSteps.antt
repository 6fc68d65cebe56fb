-- The steps of the loops over marks.
use Rattle.std.proofs.Common.{◌≡◌, ℕ, zero, suc, ◌+◌, ◌-◌, ◌<◌, ◌≤◌, Bool, true, false, cond, List, [], ◌∷◌, ◌++◌, length, refl, sym, ap, ◌∙◌, arith, append_assoc}
use Rattle.std.specs.Prelude.{filter, take}
use Rattle.std.specs.List.{range_with_len}

append-nil : (xs : List ℕ) → xs ++ [] ≡ xs
append-nil [] = refl
append-nil (x ∷ xs) = ap (λ ys. x ∷ ys) (append-nil xs)

-- a range one longer
pub filter_range_more : (p : ℕ → Bool) (a n j : ℕ) → a + n ≡ j →
    filter p (range_with_len a (suc n)) ≡ filter p (range_with_len a n) ++ cond (p j) (j ∷ []) []
filter_range_more p a zero j e =
    let same : a ≡ j = omega (arith, e) in
    ap (λ x. cond (p x) (x ∷ []) []) same
filter_range_more p a (suc n) j e =
    let more = filter_range_more p (a + 1) n j (omega arith) in
    first (p a) more
  where
    first : (here : Bool) → filter p (range_with_len (a + 1) (suc n))
        ≡ filter p (range_with_len (a + 1) n) ++ cond (p j) (j ∷ []) [] →
        cond here (a ∷ filter p (range_with_len (a + 1) (suc n))) (filter p (range_with_len (a + 1) (suc n)))
        ≡ cond here (a ∷ filter p (range_with_len (a + 1) n)) (filter p (range_with_len (a + 1) n))
        ++ cond (p j) (j ∷ []) []
    first true h = ap (λ xs. a ∷ xs) h
    first false h = h

take_nil : (n : ℕ) → take {A = ℕ} n [] ≡ []
take_nil zero = refl
take_nil (suc n) = refl

-- a front with room for one more item, and one without
pub take_room : (most : ℕ) (xs : List ℕ) (j : ℕ) → length (take most xs) < most →
    take most (xs ++ j ∷ []) ≡ take most xs ++ j ∷ []
take_room zero xs j h = absurd (omega arith)
take_room (suc most) [] j h = ap (λ xs. j ∷ xs) (take_nil most)
take_room (suc most) (x ∷ xs) j h = ap (λ ys. x ∷ ys) (take_room most xs j (omega arith))

pub take_full : (most : ℕ) (xs : List ℕ) (j : ℕ) → most ≤ length (take most xs) →
    take most (xs ++ j ∷ []) ≡ take most xs
take_full zero xs j h = refl
take_full (suc most) [] j h = absurd (omega arith)
take_full (suc most) (x ∷ xs) j h = ap (λ ys. x ∷ ys) (take_full most xs j (omega arith))

-- one more block of a gathered range
module _ (p : ℕ → Bool) (from block most : ℕ) (front plan : List ℕ) where
  one_more : from ≤ block → (here : Bool) → p block ≡ here →
      take most (front ++ filter p (range_with_len from (block + 1 - from)))
      ≡ take most ((front ++ filter p (range_with_len from (block - from))) ++ cond here (block ∷ []) [])
  one_more low here h =
      let longer : block + 1 - from ≡ suc (block - from) = omega arith in
      let apart : from + (block - from) ≡ block = omega arith in
      ap (λ n. take most (front ++ filter p (range_with_len from n))) longer
      ∙ ap (λ xs. take most (front ++ xs))
      (filter_range_more p from (block - from) block apart
      ∙ ap (λ b. filter p (range_with_len from (block - from)) ++ cond b (block ∷ []) []) h)
      ∙ ap (take most) (sym (append_assoc front (filter p (range_with_len from (block - from)))
      (cond here (block ∷ []) [])))

  pub gathers : from ≤ block → p block ≡ true →
      plan ≡ take most (front ++ filter p (range_with_len from (block - from))) → length plan < most →
      plan ++ block ∷ [] ≡ take most (front ++ filter p (range_with_len from (block + 1 - from)))
  gathers low h was room =
      let zs = front ++ filter p (range_with_len from (block - from)) in
      let fits : length (take most zs) < most = rw (← was) room in
      ap (λ xs. xs ++ block ∷ []) was ∙ sym (take_room most zs block fits) ∙ sym (one_more low true h)

  pub is_full : from ≤ block → p block ≡ true →
      plan ≡ take most (front ++ filter p (range_with_len from (block - from))) → most ≤ length plan →
      plan ≡ take most (front ++ filter p (range_with_len from (block + 1 - from)))
  is_full low h was full =
      let zs = front ++ filter p (range_with_len from (block - from)) in
      let fits : most ≤ length (take most zs) = rw (← was) full in
      was ∙ sym (take_full most zs block fits) ∙ sym (one_more low true h)

  pub passes_over : from ≤ block → p block ≡ false →
      plan ≡ take most (front ++ filter p (range_with_len from (block - from))) →
      plan ≡ take most (front ++ filter p (range_with_len from (block + 1 - from)))
  passes_over low h was =
      was ∙ ap (take most) (sym (append-nil (front ++ filter p (range_with_len from (block - from)))))
      ∙ sym (one_more low false h)

-- a list within the room, and nothing gathered yet
pub gathers_none : (p : ℕ → Bool) (from most : ℕ) (plan : List ℕ) → length plan ≤ most →
    plan ≡ take most (plan ++ filter p (range_with_len from (from - from)))
gathers_none p from most plan h =
    let none : from - from ≡ 0 = omega arith in
    sym (ap (λ n. take most (plan ++ filter p (range_with_len from n))) none ∙ ap (take most) (append-nil plan)
    ∙ take_whole most plan h)
  where
    take_whole : (most : ℕ) (xs : List ℕ) → length xs ≤ most → take most xs ≡ xs
    take_whole zero [] h = refl
    take_whole zero (x ∷ xs) h = absurd (omega arith)
    take_whole (suc most) [] h = refl
    take_whole (suc most) (x ∷ xs) h = ap (λ ys. x ∷ ys) (take_whole most xs (omega arith))
