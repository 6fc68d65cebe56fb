-- Sets of numbers by a flag for each number.
use Rattle.std.proofs.Common.{◌≡◌, ◌≢◌, ℕ, zero, suc, ◌+◌, ◌<◌, ◌==◌, Bool, true, false, cond, not, ◌&&◌, ◌||◌, List, [], ◌∷◌, length, set, refl, sym, ap, ◌∙◌, arith}
use Rattle.std.specs.Prelude.{filter, replicate}
use Rattle.std.specs.List.{range_with_len}
use Rattle.std.proofs.lemmas.Bool.{eqb-true}
use Rattle.std.proofs.lemmas.List.{get_or-set_same, get_or-set_other}
use Rattle.guards_model.specs.Channels.{has, without, numbers_below}
use Rattle.guards_model.proofs.Tables.{has-filter}
use Rattle.guards_model.proofs.NumbersBelow.{below_there}
use Rattle.context_blocks.specs.BlockSets.{numbers_where, flag_at}

-- ---- sets by a test

pub where_has : (n : ℕ) (test : ℕ → Bool) (b : ℕ) → b < n → has (numbers_where n test) b ≡ test b
unfolding numbers_where
where_has n test b h = has-filter test (numbers_below n) b ∙ ap (λ there. test b && there) (below_there n b h)
    ∙ and_there (test b)
  where
    and_there : (t : Bool) → (t && true) ≡ t
    and_there true = refl
    and_there false = refl

range_alike : (t u : ℕ → Bool) (a n : ℕ) → ((b : ℕ) → b < a + n → t b ≡ u b) →
    filter t (range_with_len a n) ≡ filter u (range_with_len a n)
range_alike t u a zero h = refl
range_alike t u a (suc n) h =
    ap (λ keep. cond keep (a ∷ filter t (range_with_len (a + 1) n)) (filter t (range_with_len (a + 1) n)))
    (h a (omega arith))
    ∙ ap (λ rest. cond (u a) (a ∷ rest) rest) (range_alike t u (a + 1) n (λ b low. h b (omega (arith, low))))

-- tests that agree on the numbers below n
pub where_alike : (n : ℕ) (t u : ℕ → Bool) → ((b : ℕ) → b < n → t b ≡ u b) → numbers_where n t ≡ numbers_where n u
unfolding numbers_where
where_alike n t u h = range_alike t u 0 n (λ b low. h b (omega (arith, low)))

none_in_range : (t : ℕ → Bool) (a n : ℕ) → ((b : ℕ) → t b ≡ false) → filter t (range_with_len a n) ≡ []
none_in_range t a zero h = refl
none_in_range t a (suc n) h =
    ap (λ keep. cond keep (a ∷ filter t (range_with_len (a + 1) n)) (filter t (range_with_len (a + 1) n))) (h a)
    ∙ none_in_range t (a + 1) n h

pub where_none : (n : ℕ) (t : ℕ → Bool) → ((b : ℕ) → t b ≡ false) → numbers_where n t ≡ []
unfolding numbers_where
where_none n t h = none_in_range t 0 n h

filter_step : (t u : ℕ → Bool) (x : ℕ) (xs : List ℕ) (a b : Bool) → t x ≡ a →
    filter t (filter u xs) ≡ filter (λ y. t y && u y) xs →
    filter t (cond b (x ∷ filter u xs) (filter u xs))
    ≡ cond (a && b) (x ∷ filter (λ y. t y && u y) xs) (filter (λ y. t y && u y) xs)
filter_step t u x xs true true e more =
    ap (λ keep. cond keep (x ∷ filter t (filter u xs)) (filter t (filter u xs))) e ∙ ap (λ rest. x ∷ rest) more
filter_step t u x xs false true e more =
    ap (λ keep. cond keep (x ∷ filter t (filter u xs)) (filter t (filter u xs))) e ∙ more
filter_step t u x xs true false e more = more
filter_step t u x xs false false e more = more

filter_both : (t u : ℕ → Bool) (xs : List ℕ) → filter t (filter u xs) ≡ filter (λ y. t y && u y) xs
filter_both t u [] = refl
filter_both t u (x ∷ xs) = filter_step t u x xs (t x) (u x) refl (filter_both t u xs)

-- a set without the members of another
pub where_without : (n : ℕ) (t : ℕ → Bool) (gone : List ℕ) →
    without (numbers_where n t) gone ≡ numbers_where n (λ b. not (has gone b) && t b)
unfolding numbers_where
where_without n t gone = filter_both (λ b. not (has gone b)) t (numbers_below n)

-- ---- flags

pub no_flag : (n b : ℕ) → flag_at (replicate n false) b ≡ false
no_flag zero b = refl
no_flag (suc n) zero = refl
no_flag (suc n) (suc b) = no_flag n b

-- the flag of a number is set, and the others stay
pub flag_set : (flags : List Bool) (k b : ℕ) → k < length flags →
    flag_at (set flags k true) b ≡ ((b == k) || flag_at flags b)
flag_set flags k b low = by (b == k) refl
  where
    by : (same : Bool) → (b == k) ≡ same → flag_at (set flags k true) b ≡ (same || flag_at flags b)
    by true e = ap (λ b. flag_at (set flags k true) b) (eqb-true b k e) ∙ get_or-set_same flags k true false low
    by false e = get_or-set_other flags k b true false (other e)
      where
        other : (b == k) ≡ false → b ≢ k
        other e same = grind (arith, e, same)

pub flag_cleared : (flags : List Bool) (k b : ℕ) → k < length flags →
    flag_at (set flags k false) b ≡ (not (has (k ∷ []) b) && flag_at flags b)
flag_cleared flags k b low = by (k == b) refl
  where
    by : (same : Bool) → (k == b) ≡ same → flag_at (set flags k false) b ≡ (not (same || false) && flag_at flags b)
    by true e = ap (λ b. flag_at (set flags k false) b) (sym (eqb-true k b e)) ∙ get_or-set_same flags k false false low
    by false e = get_or-set_other flags k b false false (other e)
      where
        other : (k == b) ≡ false → b ≢ k
        other e same = grind (arith, e, same)

counted_from : (t : ℕ → Bool) (a : ℕ) (flags : List Bool) → ((k : ℕ) → k < length flags → t (a + k) ≡ flag_at flags k) →
    length (filter t (range_with_len a (length flags))) ≡ length (filter (λ flag. flag) flags)
counted_from t a [] h = refl
counted_from t a (flag ∷ flags) h =
    let here : t a ≡ flag = ap t zero_more ∙ h 0 (omega arith) in
    ap (λ keep. length (cond keep (a ∷ filter t (range_with_len (a + 1) (length flags)))
    (filter t (range_with_len (a + 1) (length flags))))) here
    ∙ by flag (counted_from t (a + 1) flags (λ k low. ap t (later k) ∙ h (suc k) (omega (arith, low))))
  where
    zero_more : a ≡ a + 0
    zero_more = omega arith

    later : (k : ℕ) → (a + 1) + k ≡ a + suc k
    later k = omega arith

    by : (flag : Bool) → length (filter t (range_with_len (a + 1) (length flags)))
        ≡ length (filter (λ flag. flag) flags) →
        length (cond flag (a ∷ filter t (range_with_len (a + 1) (length flags)))
        (filter t (range_with_len (a + 1) (length flags))))
        ≡ length (cond flag (flag ∷ filter (λ flag. flag) flags) (filter (λ flag. flag) flags))
    by true more = ap (λ n. suc n) more
    by false more = more

-- a set has as many numbers as there are flags set
pub flags_counted : (flags : List Bool) (n : ℕ) → length flags ≡ n →
    length (numbers_where n (flag_at flags)) ≡ length (filter (λ flag. flag) flags)
unfolding numbers_where
flags_counted flags n e =
    ap (λ n. length (filter (flag_at flags) (numbers_below n))) (sym e)
    ∙ counted_from (flag_at flags) 0 flags (λ k low. ap (flag_at flags) (none k))
  where
    none : (k : ℕ) → 0 + k ≡ k
    none k = omega arith
