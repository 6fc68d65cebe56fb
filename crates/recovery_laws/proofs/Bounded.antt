-- A length is no more than the bound of a join, and where there is a bound there is a length.
use Rattle.std.proofs.Common.{◌≡◌, ℕ, zero, suc, ◌+◌, ◌-◌, ◌*◌, ◌<◌, ◌≤◌, ◌⊎◌, inl, inr, Bool, true, false, cond, ◌&&◌, length, Option, None, Some, refl, ap, arith}
use Rattle.std.specs.Prelude.{nat_lt, nat_le, max}
use Rattle.std.specs.Int.{div_ceil}
use Rattle.std.proofs.lemmas.Bool.{leb-true, leb-false, cases_lt}
use Rattle.std.proofs.lemmas.Grind.{div_ceil_times}
use Rattle.std.proofs.Math.Nat.{mul-le-mul_left}
use Rattle.guards_model.specs.Missions.{MissionValue, IsMission}
use Rattle.guards_model.specs.JoinBound.{most_blocks, join_bound}
use Rattle.guards_model.specs.Transfers.{remaining_blocks}
use Rattle.guards_model.specs.TransferRounds.{AreSwept, NoneFits}
use Rattle.guards_model.proofs.JoinBound.{join_in_time}
use Rattle.guards_laws.proofs.JoinedInTime.{writes_few}
use Rattle.guards_laws.proofs.Planned.{ranges}
use Rattle.recovery_laws.specs.Lengths.{transfer_cycles, fits_after, transfer_length}
use Rattle.recovery_laws.proofs.FirstFrom.{IsFirst}
use Rattle.recovery_laws.proofs.Counted.{length_first, no_length}

module _ (M : MissionValue) (row : ℕ) where
  swept : (n : ℕ) → AreSwept M.rules.blocks M.rules.sweep (most_blocks M.table) (transfer_cycles M row n)
  swept zero = tt
  swept (suc n) = (refl, writes_few M (row + n), swept n)

  none_fits : (n : ℕ) → ((j : ℕ) → 1 ≤ j → j ≤ n → fits_after M row j ≡ false) →
      NoneFits M.rules.blocks M.rules.last (transfer_cycles M row n)
  none_fits zero h = tt
  none_fits (suc n) h = (
    leb-false (length (remaining_blocks M.rules.blocks (transfer_cycles M row (suc n)))) M.rules.last
        (h (suc n) (omega arith) (omega arith)),
    none_fits n (λ j low high. h j low (omega (arith, high))),
  )

  long : (n : ℕ) → length (transfer_cycles M row n) ≡ n
  long zero = refl
  long (suc n) = ap suc (long n)

  few : (n bound : ℕ) → join_bound M.rules.blocks M.rules.sweep M.rules.last (most_blocks M.table) ≡ Some bound →
      ((j : ℕ) → 1 ≤ j → j ≤ n → fits_after M row j ≡ false) → n < bound
  few n bound h none =
      omega (
        arith,
        long n,
        join_in_time M.rules.blocks M.rules.sweep M.rules.last (most_blocks M.table) bound
            (transfer_cycles M row n) h (swept n) (none_fits n none),
      )

-- ---- a bound is small

ceil_small : (x d : ℕ) → 0 < d → div_ceil x d ≤ x
ceil_small x d some = by (cases_lt x (div_ceil x d))
  where
    by : (x < div_ceil x d) ⊎ (div_ceil x d ≤ x) → div_ceil x d ≤ x
    by (inr small) = small
    by (inl big) =
        let high : div_ceil x d * d < x + d = (div_ceil_times x d some).1 in
        absurd (too_big x d (div_ceil x d) some big high)
      where
        too_big : (x d c : ℕ) → 0 < d → x < c → c * d < x + d → ⊥
        too_big x d zero some big high = omega (arith, big)
        too_big x d (suc c) some big high =
            let one : c * 1 ≤ c * d = mul-le-mul_left c some in
            omega (arith, big, high, one)

bound_by : (blocks sweep last : ℕ) (w bound : ℕ) (a b : Bool) → nat_lt w sweep ≡ a → 1 ≤ blocks →
    cond (a && b) (Some (max 1 (div_ceil (blocks - last) (sweep - w)))) None ≡ Some bound → bound ≤ blocks
bound_by blocks sweep last w bound true true e some h =
    let less : suc w ≤ sweep = leb-true (suc w) sweep e in
    omega (arith, same h, some, ceil_small (blocks - last) (sweep - w) (omega (arith, less)))
  where
    same : Some (max 1 (div_ceil (blocks - last) (sweep - w))) ≡ Some bound →
        bound ≡ max 1 (div_ceil (blocks - last) (sweep - w))
    same h = cc
bound_by blocks sweep last w bound true false e some h = absurd cc
bound_by blocks sweep last w bound false true e some h = absurd cc
bound_by blocks sweep last w bound false false e some h = absurd cc

pub record EndsWithin (M : MissionValue) (row bound : ℕ) : Type 0 where
  pub k : ℕ
  pub is : transfer_length M row ≡ Some k
  pub small : k ≤ bound

module _ (M : MissionValue) (row bound : ℕ) (mission : IsMission M)
    (bounded : join_bound M.rules.blocks M.rules.sweep M.rules.last (most_blocks M.table) ≡ Some bound) where
  bound_small : bound ≤ 256
  bound_small =
      let r = ranges M mission in
      let most : bound ≤ M.rules.blocks =
      bound_by M.rules.blocks M.rules.sweep M.rules.last (most_blocks M.table) bound
      (nat_lt (most_blocks M.table) M.rules.sweep) (nat_le (most_blocks M.table) M.rules.last) refl r.some_blocks
      bounded in
      omega (arith, most, r.blocks)

  by_length : (o : Option ℕ) → transfer_length M row ≡ o → (k : ℕ) × (transfer_length M row ≡ Some k) × (k ≤ bound)
  by_length None e = absurd (omega (arith, few M row 2000 bound bounded (no_length M row e), bound_small))
  by_length (Some k) e = (k, e, small (length_first M row k e))
    where
      small : IsFirst (fits_after M row) 1 k → k ≤ bound
      small first =
          let from : 1 ≤ k = first.from in
          let before : k - 1 < bound =
          few M row (k - 1) bound bounded (λ j low high. first.none j low (omega (arith, from, high))) in
          omega (arith, before, from)

  pub ends_within : (k : ℕ) × (transfer_length M row ≡ Some k) × (k ≤ bound)
  ends_within = by_length (transfer_length M row) refl
