-- The walk that settles the branches of a path.
use Rattle.std.proofs.Common.{◌≡◌, ◌≤◌, ℕ, ◌+◌, ◌*◌, ◌<◌, ◌≢◌, zero, suc, List, length, take, drop, get_or, Option, None, ◌∙◌, arith, below_more, get_or-set_other, get_or-set_same, length-set}
use Rattle.std.specs.Prelude.{slice_set}
use Rattle.guards_model.specs.Frames.{SourceValue}
use Rattle.guards_model.specs.OralMessages.{majority_value}

-- what the branches at a place settle
unfoldable pub branch_value : List (Option SourceValue) → ℕ → ℕ → Option SourceValue
branch_value values place k = majority_value (take 5 (drop ((place * 6 + k) * 5) values))

pub record AreSettled (values : List (Option SourceValue)) (place n : ℕ) (branches : List (Option SourceValue)) : Type
    0 where
  pub six : length branches ≡ 6
  pub each : (k : ℕ) → k < n → (get_or branches k None) ≡ branch_value values place k

pub settled_more : (values : List (Option SourceValue)) (place n : ℕ) (branches : List (Option SourceValue))
    (v : Option SourceValue) → n < 6 → AreSettled values place n branches →
    v ≡ majority_value (take 5 (drop ((place * 6 + n) * 5) values)) →
    AreSettled values place (n + 1) (slice_set branches n v)
unfolding branch_value
settled_more values place n branches v small before is =
    let six : length branches ≡ 6 = before.six in
    let lt : n < length branches = omega arith in
    record {
      six = length-set branches n v ∙ six;
      each = below_more (λ k. (get_or (slice_set branches n v) k None)
          ≡ majority_value (take 5 (drop ((place * 6 + k) * 5) values))) n
          (λ k h. let ne : k ≢ n = omega arith in rw get_or-set_other (before.each k h))
          (rw get_or-set_same is);
    }

pub product : (r w : ℕ) → r < 49 → w < 7 → r * w ≤ 288
product r zero lt le = omega (arith, lt)
product r (suc zero) lt le = omega (arith, lt)
product r (suc (suc zero)) lt le = omega (arith, lt)
product r (suc (suc (suc zero))) lt le = omega (arith, lt)
product r (suc (suc (suc (suc zero)))) lt le = omega (arith, lt)
product r (suc (suc (suc (suc (suc zero))))) lt le = omega (arith, lt)
product r (suc (suc (suc (suc (suc (suc zero)))))) lt le = omega (arith, lt)
product r (suc (suc (suc (suc (suc (suc (suc w))))))) lt le = absurd (omega (arith, le))
