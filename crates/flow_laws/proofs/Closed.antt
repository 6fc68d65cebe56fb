-- The words on which outputs depend are closed: so many steps as there are words reach all of them.
use Rattle.std.proofs.Common.{◌≡◌, ◌∙◌, ◌<◌, ◌≤◌, ◌+◌, ◌==◌, ◌⊎◌, inl, inr, ℕ, zero, suc, Bool, true, false, cond, ◌||◌, List, [], ◌∷◌, length, refl, sym, ap, arith}
use Rattle.std.specs.Prelude.{nat_lt}
use Rattle.std.specs.List.{list_all, range_with_len}
use Rattle.std.proofs.lemmas.Bool.{eqb-true}
use Rattle.std.proofs.lemmas.List.FromFn.{length-range_with_len}
use Rattle.guards_model.specs.Channels.{has, numbers_below}
use Rattle.guards_model.proofs.BoolTests.{differ, or_left, or_true}
use Rattle.guards_model.proofs.NumbersBelow.{below_there}
use Rattle.table_flow.specs.Flow.{Assignment, depends_within, feeds}
use Rattle.table_flow.proofs.Whole.{feeds_alike}

-- ---- how many numbers pass

abbrev count : (ℕ → Bool) → List ℕ → ℕ
count p [] = 0
count p (x ∷ xs) = cond (p x) (suc (count p xs)) (count p xs)

count_most : (p : ℕ → Bool) (xs : List ℕ) → count p xs ≤ length xs
count_most p [] = omega arith
count_most p (x ∷ xs) = by (p x) (count_most p xs)
  where
    by : (b : Bool) → count p xs ≤ length xs → cond b (suc (count p xs)) (count p xs) ≤ suc (length xs)
    by true rest = omega (arith, rest)
    by false rest = omega (arith, rest)

or_cases : (a b : Bool) → (a || b) ≡ true → (a ≡ true) ⊎ (b ≡ true)
or_cases true b h = inl refl
or_cases false b h = inr h

-- where all are counted, each one passes
all_counted : (p : ℕ → Bool) (xs : List ℕ) → length xs ≤ count p xs → (w : ℕ) → has xs w ≡ true → p w ≡ true
all_counted p [] h w there = absurd cc
all_counted p (x ∷ xs) h w there = by (p x) refl h (all_counted p xs)
  where
    by : (b : Bool) → p x ≡ b → suc (length xs) ≤ cond b (suc (count p xs)) (count p xs) →
        (length xs ≤ count p xs → (w : ℕ) → has xs w ≡ true → p w ≡ true) → p w ≡ true
    by false e h rest = absurd (omega (arith, h, count_most p xs))
    by true e h rest =
        elim (or_cases (x == w) (has xs w) there) [
          | inl same ↦ ap p (sym (eqb-true x w same)) ∙ e
          | inr later ↦ rest (omega (arith, h)) w later
        ]

-- two tests, of which the second lets all pass that the first does: they agree on a list, or the second lets more pass
record Grows (p q : ℕ → Bool) (xs : List ℕ) : Type 0 where
  least : count p xs ≤ count q xs
  more : ((w : ℕ) → has xs w ≡ true → q w ≡ p w) ⊎ (count p xs < count q xs)

grows : (p q : ℕ → Bool) → ((w : ℕ) → p w ≡ true → q w ≡ true) → (xs : List ℕ) → Grows p q xs
grows p q up [] = record { least = omega arith; more = inl (λ w there. absurd cc) }
grows p q up (x ∷ xs) = by (p x) (q x) refl refl (grows p q up xs)
  where
    same_here : (b : Bool) → p x ≡ b → q x ≡ b → ((w : ℕ) → has xs w ≡ true → q w ≡ p w) → (w : ℕ) →
        has (x ∷ xs) w ≡ true → q w ≡ p w
    same_here b e f rest w there =
        elim (or_cases (x == w) (has xs w) there) [
          | inl same ↦ ap q (sym (eqb-true x w same)) ∙ f ∙ sym e ∙ ap p (eqb-true x w same)
          | inr later ↦ rest w later
        ]

    counted : (r : ℕ → Bool) (b : Bool) → r x ≡ b → count r (x ∷ xs) ≡ cond b (suc (count r xs)) (count r xs)
    counted r b e = ap (λ t. cond t (suc (count r xs)) (count r xs)) e

    lifted : (b : Bool) → p x ≡ b → q x ≡ b → Grows p q xs → Grows p q (x ∷ xs)
    lifted true e f rest =
        record {
          least = omega (arith, counted p true e, counted q true f, rest.least);
          more = elim rest.more [
            | inl same ↦ inl (same_here true e f same)
            | inr above ↦ inr (omega (arith, counted p true e, counted q true f, above))
          ];
        }
    lifted false e f rest =
        record {
          least = omega (arith, counted p false e, counted q false f, rest.least);
          more = elim rest.more [
            | inl same ↦ inl (same_here false e f same)
            | inr above ↦ inr (omega (arith, counted p false e, counted q false f, above))
          ];
        }

    by : (a b : Bool) → p x ≡ a → q x ≡ b → Grows p q xs → Grows p q (x ∷ xs)
    by true true e f rest = lifted true e f rest
    by false false e f rest = lifted false e f rest
    by true false e f rest = differ (sym (up x e) ∙ f)
    by false true e f rest =
        record {
          least = omega (arith, counted p false e, counted q true f, rest.least);
          more = inr (omega (arith, counted p false e, counted q true f, rest.least));
        }

-- ---- steps

module _ (list : List Assignment) (outputs : List (ℕ × ℕ)) (words : ℕ)
    (low : list_all (λ (a : Assignment). nat_lt a.word words) list ≡ true) where
  abbrev D : ℕ → ℕ → Bool
  D n = depends_within list outputs n

  abbrev Stable : ℕ → Type 0
  Stable n = (w : ℕ) → w < words → D (suc n) w ≡ D n w

  stable_next : (n : ℕ) → Stable n → Stable (suc n)
  stable_next n stable w small =
      ap (λ t. t || feeds list (D (suc n)) w) (stable w small)
      ∙ ap (λ t. D n w || t) (feeds_alike (D (suc n)) (D n) list w words low stable)

  there_below : (a k b : ℕ) → has (range_with_len a k) b ≡ true → b < a + k
  there_below a zero b h = absurd cc
  there_below a (suc k) b h =
      elim (or_cases (a == b) (has (range_with_len (a + 1) k) b) h) [
        | inl e ↦ let same : a ≡ b = eqb-true a b e in omega (arith, same)
        | inr e ↦ let less : b < a + 1 + k = there_below (a + 1) k b e in omega (arith, less)
      ]

  reached : (n : ℕ) → Stable n ⊎ (n ≤ count (D n) (numbers_below words))
  reached zero = inr (omega arith)
  reached (suc n) = by (reached n)
    where
      by : Stable n ⊎ (n ≤ count (D n) (numbers_below words)) → Stable (suc n)
          ⊎ (suc n ≤ count (D (suc n)) (numbers_below words))
      by (inl stable) = inl (stable_next n stable)
      by (inr many) =
          elim (grows (D n) (D (suc n)) (λ w h. or_left (D n w) (feeds list (D n) w) h) (numbers_below words)).more [
            | inl same ↦ inl (stable_next n (λ w small. same w (below_there words w small)))
            | inr above ↦ inr (omega (arith, many, above))
          ]

  pub closed : (w : ℕ) → w < words → feeds list (D words) w ≡ true → D words w ≡ true
  closed w small fed = by (reached words)
    where
      by : Stable words ⊎ (words ≤ count (D words) (numbers_below words)) → D words w ≡ true
      by (inl stable) = sym (stable w small) ∙ or_true (D words w) (feeds list (D words) w) fed
      by (inr many) =
          all_counted (D words) (numbers_below words) (omega (arith, many, length-range_with_len 0 words)) w
          (below_there words w small)

  -- outputs are among them
  pub first_there : (n w : ℕ) → D 0 w ≡ true → D n w ≡ true
  first_there zero w h = h
  first_there (suc n) w h = or_left (D n w) (feeds list (D n) w) (first_there n w h)
