-- Among more numbers than there are below a bound, two are the same.
use Rattle.std.proofs.Common.{◌≡◌, ℕ, zero, suc, ◌-◌, ◌<◌, ◌≤◌, ◌⊎◌, inl, inr, Bool, true, false, refl, sym, ap, ◌∙◌, arith}
use Rattle.std.specs.Prelude.{nat_lt}
use Rattle.std.proofs.lemmas.Bool.{leb-true, leb-false, cases_eq}

-- two places up to n with the same number
pub record HasRepeat (f : ℕ → ℕ) (n : ℕ) : Type 0 where
  pub first : ℕ
  pub second : ℕ
  pub earlier : first < second
  pub within : second ≤ n
  pub same : f first ≡ f second

-- whether some place up to n has this number
find_value : (f : ℕ → ℕ) (v n : ℕ) → ((i : ℕ) × (i ≤ n) × (f i ≡ v)) ⊎ ((i : ℕ) → i ≤ n → f i ≡ v → ⊥)
find_value f v zero =
    elim (cases_eq (f 0) v) [
      | inl is ↦ inl (0, omega arith, is)
      | inr other ↦ inr (λ i low is. other (let first : i ≡ 0 = omega (arith, low) in ap f (sym first) ∙ is))
    ]
find_value f v (suc n) =
    elim (cases_eq (f (suc n)) v) [
      | inl is ↦ inl (suc n, omega arith, is)
      | inr other ↦ elim (find_value f v n) [
        | inl (i, low, is) ↦ inl (i, omega (arith, low), is)
        | inr none ↦ inr (λ i low is. by i low is (cases_eq i (suc n)) other none)
      ]
    ]
  where
    by : (i : ℕ) → i ≤ suc n → f i ≡ v → (i ≡ suc n) ⊎ (i ≡ suc n → ⊥) → (f (suc n) ≡ v → ⊥) →
        ((i : ℕ) → i ≤ n → f i ≡ v → ⊥) → ⊥
    by i low is (inl last) other none = other (ap f (sym last) ∙ is)
    by i low is (inr before) other none = none i (omega (arith, low, before)) is

-- a number without one that is left out
closed_by : ℕ → Bool → ℕ
closed_by x true = x - 1
closed_by x false = x

closed : ℕ → ℕ → ℕ
closed v x = closed_by x (nat_lt v x)

closed_small : (v x n : ℕ) → x < suc n → v < suc n → (x ≡ v → ⊥) → closed v x < n
unfolding closed closed_by
closed_small v x n small out other = by (nat_lt v x) refl
  where
    by : (b : Bool) → nat_lt v x ≡ b → closed_by x b < n
    by true e = omega (arith, small, leb-true (suc v) x e)
    by false e = omega (arith, small, out, other, leb-false (suc v) x e)

closed_same : (v x y : ℕ) → (x ≡ v → ⊥) → (y ≡ v → ⊥) → closed v x ≡ closed v y → x ≡ y
unfolding closed closed_by
closed_same v x y not_x not_y same = by (nat_lt v x) (nat_lt v y) refl refl same
  where
    by : (a b : Bool) → nat_lt v x ≡ a → nat_lt v y ≡ b → closed_by x a ≡ closed_by y b → x ≡ y
    by true true e g h = omega (arith, h, leb-true (suc v) x e, leb-true (suc v) y g)
    by true false e g h = omega (arith, h, not_y, leb-true (suc v) x e, leb-false (suc v) y g)
    by false true e g h = omega (arith, h, not_x, leb-false (suc v) x e, leb-true (suc v) y g)
    by false false e g h = h

pub repeats : (n : ℕ) (f : ℕ → ℕ) → ((i : ℕ) → i ≤ n → f i < n) → HasRepeat f n
repeats zero f small = absurd (omega (arith, small 0 (omega arith)))
repeats (suc n) f small =
    let v : ℕ = f (suc n) in
    elim (find_value f v n) [
      | inl (i, low, is) ↦ record {
        first = i;
        second = suc n;
        earlier = omega (arith, low);
        within = omega arith;
        same = is;
      }
      | inr none ↦
          let r = repeats n (λ i. closed v (f i))
          (λ i low. closed_small v (f i) n (small i (omega (arith, low))) (small (suc n) (omega arith)) (none i low)) in
          record {
            first = r.first;
            second = r.second;
            earlier = r.earlier;
            within = omega (arith, r.within);
            same = closed_same v (f r.first) (f r.second) (none r.first (omega (arith, r.earlier, r.within)))
                (none r.second r.within) r.same;
          }
    ]
