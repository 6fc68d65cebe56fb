-- The first number that passes a test.
use Rattle.std.proofs.Common.{◌≡◌, ℕ, zero, suc, ◌+◌, ◌<◌, ◌≤◌, ◌⊎◌, inl, inr, Bool, true, false, cond, None, Some, refl, sym, ap, ◌∙◌, arith}
use Rattle.std.proofs.lemmas.Bool.{cases_lt}
use Rattle.recovery_laws.specs.Lengths.{first_from}

-- k is the first number from n on that passes
pub record IsFirst (f : ℕ → Bool) (n k : ℕ) : Type 0 where
  pub from : n ≤ k
  pub passes : f k ≡ true
  pub none : (j : ℕ) → n ≤ j → j < k → f j ≡ false

pub same_number : (n k : ℕ) → Some n ≡ Some k → n ≡ k
same_number n k h = cc

module _ (f : ℕ → Bool) where
  later : (n k : ℕ) → f n ≡ false → IsFirst f (suc n) k → IsFirst f n k
  later n k e first = record {
    from = omega (arith, first.from);
    passes = first.passes;
    none = λ j low high. here j high (cases_lt n j) low;
  }
    where
      here : (j : ℕ) → j < k → (n < j) ⊎ (j ≤ n) → n ≤ j → f j ≡ false
      here j high (inl above) low = first.none j above high
      here j high (inr under) low = let same : j ≡ n = omega (arith, under, low) in ap f same ∙ e

  found_by : (n more k : ℕ) (b : Bool) → f n ≡ b → cond b (Some n) (first_from f (suc n) more) ≡ Some k →
      (first_from f (suc n) more ≡ Some k → IsFirst f (suc n) k) → IsFirst f n k
  found_by n more k true e h rest =
      let same : n ≡ k = same_number n k h in
      record {
        from = omega (arith, same);
        passes = ap f (sym same) ∙ e;
        none = λ j low high. absurd (omega (arith, low, high, same));
      }
  found_by n more k false e h rest = later n k e (rest h)

  pub found : (n more k : ℕ) → first_from f n more ≡ Some k → IsFirst f n k
  found n zero k h = absurd cc
  found n (suc more) k h = found_by n more k (f n) refl h (found (suc n) more k)

  least_here : (n more k : ℕ) → n ≡ k → f k ≡ true → first_from f n (suc more) ≡ Some k
  least_here n more k same e =
      ap (λ b. cond b (Some n) (first_from f (suc n) more)) (ap f same ∙ e) ∙ ap (λ m. Some m) same

  least_by : (n more k : ℕ) → IsFirst f n k → (n < k) ⊎ (k ≤ n) →
      (IsFirst f (suc n) k → first_from f (suc n) more ≡ Some k) → first_from f n (suc more) ≡ Some k
  least_by n more k first (inr under) rest = least_here n more k (omega (arith, under, first.from)) first.passes
  least_by n more k first (inl above) rest =
      ap (λ b. cond b (Some n) (first_from f (suc n) more)) (first.none n (omega arith) above)
      ∙ rest (record {
        from = above;
        passes = first.passes;
        none = λ j low high. first.none j (omega (arith, low)) high;
      })

  pub least : (n more k : ℕ) → k < n + more → IsFirst f n k → first_from f n more ≡ Some k
  least n zero k h first = absurd (omega (arith, h, first.from))
  least n (suc more) k h first = least_by n more k first (cases_lt n k) (least (suc n) more k (omega (arith, h)))

  none_by : (n more : ℕ) (b : Bool) → f n ≡ b → cond b (Some n) (first_from f (suc n) more) ≡ None →
      (first_from f (suc n) more ≡ None → (j : ℕ) → suc n ≤ j → j < suc n + more → f j ≡ false) →
      (j : ℕ) → n ≤ j → j < n + suc more → f j ≡ false
  none_by n more true e h rest j low high = absurd cc
  none_by n more false e h rest j low high = by (cases_lt n j)
    where
      by : (n < j) ⊎ (j ≤ n) → f j ≡ false
      by (inl above) = rest h j above (omega (arith, high))
      by (inr under) = let same : j ≡ n = omega (arith, under, low) in ap f same ∙ e

  pub none_passes : (n more : ℕ) → first_from f n more ≡ None → (j : ℕ) → n ≤ j → j < n + more → f j ≡ false
  none_passes n zero h j low high = absurd (omega (arith, low, high))
  none_passes n (suc more) h j low high = none_by n more (f n) refl h (none_passes (suc n) more) j low high

  pub none_first : (n more : ℕ) → ((j : ℕ) → n ≤ j → j < n + more → f j ≡ false) → first_from f n more ≡ None
  none_first n zero h = refl
  none_first n (suc more) h =
      ap (λ b. cond b (Some n) (first_from f (suc n) more)) (h n (omega arith) (omega arith))
      ∙ none_first (suc n) more (λ j low high. h j (omega (arith, low)) (omega (arith, high)))
