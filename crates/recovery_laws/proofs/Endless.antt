-- Whether a transfer ends is decided within as many cycles as it has states.
use Rattle.std.proofs.Common.{◌≡◌, ℕ, zero, suc, ◌+◌, ◌-◌, ◌*◌, ◌%◌, ◌/◌, ◌<◌, ◌≤◌, inl, inr, Bool, true, false, ◌&&◌, length, Option, None, Some, refl, sym, ap, ◌∙◌, arith}
use Rattle.std.specs.Prelude.{nat_le, is_none}
use Rattle.std.proofs.lemmas.Bool.{leb-true, cases_lt}
use Rattle.std.proofs.Math.Nat.{mod-add-div, mul-mod_right}
use Rattle.guards_model.specs.Missions.{MissionValue, IsMission, within, is_task_in_range}
use Rattle.guards_model.proofs.BoolTests.{both, differ}
use Rattle.guards_laws.proofs.Planned.{ranges}
use Rattle.recovery_laws.specs.Lengths.{fits_after, first_from, most_cycles, transfer_length, row_of, counted_length, GoesRound}
use Rattle.recovery_laws.specs.Endless.{most_states, never_ends, FitsFirst, EndsOrGoesRound}
use Rattle.recovery_laws.proofs.FirstFrom.{IsFirst, found, none_passes, none_first}
use Rattle.recovery_laws.proofs.Counted.{counted_first, length_first, first_length, never_fits, first_alike, fits_of_row}
use Rattle.recovery_laws.proofs.Pigeonhole.{repeats}
use Rattle.recovery_laws.proofs.States.{state, state_small, state_tells}

-- ---- numbers that leave the same

left_same : (n m rows : ℕ) → n ≤ m → n % rows ≡ m % rows → (m - n) % rows ≡ 0
left_same n m rows late same =
    let a = mod-add-div n rows in
    let b = mod-add-div m rows in
    elim (cases_lt (m / rows) (n / rows)) [
      | inl back ↦ absurd (omega (
        arith,
        a,
        b,
        same,
        late,
        back,
        Rattle.std.proofs.Math.Nat.mul-le-mul_left {n = n / rows} rows back,
        next rows (m / rows),
      ))
      | inr on ↦ ap (λ k. k % rows) (difference on) ∙ mul-mod_right rows (m / rows - n / rows)
    ]
  where
    next : (rows k : ℕ) → rows * suc k ≡ rows * k + rows
    next rows k = grind arith

    times : (rows k d : ℕ) → rows * (k + d) ≡ rows * k + rows * d
    times rows k d = grind arith

    difference : n / rows ≤ m / rows → m - n ≡ rows * (m / rows - n / rows)
    difference on =
        let place : m / rows ≡ n / rows + (m / rows - n / rows) = omega (arith, on) in
        omega (
          arith,
          mod-add-div n rows,
          mod-add-div m rows,
          same,
          ap (λ k. rows * k) place,
          times rows (n / rows) (m / rows - n / rows),
        )

some_rows : (M : MissionValue) → IsMission M → 0 < length M.table
some_rows M mission =
    let a = both (within 1 16 (length M.table))
    (Rattle.std.specs.List.list_all
    (λ cycle_writes. nat_le (length cycle_writes) 16
    && Rattle.std.specs.List.list_all (is_task_in_range M.rules.blocks M.width) cycle_writes) M.table)
    mission.table in
    leb-true 1 (length M.table) (both (nat_le 1 (length M.table)) (nat_le (length M.table) 16) a.0).0

module _ (M : MissionValue) (row : ℕ) where
  abbrev f : ℕ → Bool
  f k = fits_after M row k

  first_is : (k : ℕ) → IsFirst (fits_after M row) 1 k → FitsFirst M row k
  first_is k first = record { some = first.from; fits = first.passes; first = first.none }

  is_first : (k : ℕ) → FitsFirst M row k → IsFirst (fits_after M row) 1 k
  is_first k first = record { from = first.some; passes = first.fits; none = first.first }

  found_under : (n more k : ℕ) → first_from (fits_after M row) n more ≡ Some k → k < n + more
  found_under n more k h =
      let first = found (fits_after M row) n more k h in
      elim (cases_lt k (n + more)) [
        | inl under ↦ under
        | inr over ↦ absurd (none_some
            (sym (none_first (fits_after M row) n more (λ j low high. first.none j low (omega (arith, high, over))))
            ∙ h))
      ]
    where
      none_some : None ≡ Some k → ⊥
      none_some e = cc

  -- ---- a repeat within the states

  goes_round : (mission : IsMission M) → ((j : ℕ) → 1 ≤ j → j ≤ most_states M → fits_after M row j ≡ false) →
      (i : ℕ) × (d : ℕ) × GoesRound M row i d × (i + d ≤ most_states M)
  goes_round mission none =
      let rows : 0 < length M.table = some_rows M mission in
      let blocks : 0 < M.rules.blocks = (ranges M mission).some_blocks in
      let r = repeats (most_states M) (state M rows blocks row) (λ i low. state_small M rows blocks row i) in
      let tells = state_tells M rows blocks row r.first r.second r.same in
      let d : ℕ = r.second - r.first in
      let place : r.first + d ≡ r.second = omega (arith, r.earlier) in (
        r.first,
        d,
        record {
          some = omega (arith, r.earlier);
          rows = ap (λ k. k % length M.table) (apart r.first r.second)
              ∙ left_same (row + r.first) (row + r.second) (length M.table) (omega (arith, r.earlier)) tells.0;
          again = ap (Rattle.recovery_laws.specs.Lengths.tags_in_transfer M row) place ∙ sym tells.1;
          unfit = counted_first M row (r.first + d)
              ∙ none_first (fits_after M row) 1 (r.first + d)
              (λ j low high. none j low (omega (arith, high, place, r.within)));
        },
        omega (arith, place, r.within),
      )
    where
      apart : (n m : ℕ) → m - n ≡ (row + m) - (row + n)
      apart n m = omega arith

  by_search : (mission : IsMission M) (o : Option ℕ) → first_from (fits_after M row) 1 (most_states M) ≡ o →
      EndsOrGoesRound M row
  by_search mission (Some k) e =
      inl (
        k,
        first_is k (found (fits_after M row) 1 (most_states M) k e),
        omega (arith, found_under 1 (most_states M) k e),
      )
  by_search mission None e =
      inr (goes_round mission (λ j low high.
      none_passes (fits_after M row) 1 (most_states M) e j low (omega (arith, high))))

  pub ends_or_round : IsMission M → EndsOrGoesRound M row
  ends_or_round mission = by_search mission (first_from (fits_after M row) 1 (most_states M)) refl

  -- ---- the decision

  never_by : (o : Option ℕ) → first_from (fits_after M row) 1 (most_states M) ≡ o → is_none o ≡ true → (j : ℕ) → 1 ≤ j →
      j ≤ most_states M → fits_after M row j ≡ false
  never_by None e h j low high = none_passes (fits_after M row) 1 (most_states M) e j low (omega (arith, high))
  never_by (Some k) e h j low high = absurd cc

  pub round_of : IsMission M → never_ends M row ≡ true →
      (i : ℕ) × (d : ℕ) × GoesRound M row i d × (i + d ≤ most_states M)
  unfolding never_ends
  round_of mission never = goes_round mission (never_by (first_from (fits_after M row) 1 (most_states M)) refl never)

  pub never_fits_after : IsMission M → never_ends M row ≡ true → (n : ℕ) → fits_after M row (suc n) ≡ false
  never_fits_after mission never n = let (i, d, round, small) = round_of mission never in never_fits M row i d round n

  pub never_if : ((n : ℕ) → fits_after M row (suc n) ≡ false) → never_ends M row ≡ true
  unfolding never_ends
  never_if none =
      ap is_none (none_first (fits_after M row) 1 (most_states M) (λ j low high. by j low))
    where
      by : (j : ℕ) → 1 ≤ j → fits_after M row j ≡ false
      by zero low = absurd (omega (arith, low))
      by (suc n) low = none n

  pub never_if_round : (i d : ℕ) → GoesRound M row i d → never_ends M row ≡ true
  never_if_round i d round = never_if (λ n. never_fits M row i d round n)

  ends_by : (o : Option ℕ) → first_from (fits_after M row) 1 (most_states M) ≡ o → is_none o ≡ false →
      (k : ℕ) × FitsFirst M row k × (k ≤ most_states M)
  ends_by None e h = absurd cc
  ends_by (Some k) e h = (
    k,
    first_is k (found (fits_after M row) 1 (most_states M) k e),
    omega (arith, found_under 1 (most_states M) k e),
  )

  pub ends_at_first : never_ends M row ≡ false → (k : ℕ) × FitsFirst M row k × (k ≤ most_states M)
  unfolding never_ends
  ends_at_first ends = ends_by (first_from (fits_after M row) 1 (most_states M)) refl ends

  pub ends_if : IsMission M → (n : ℕ) → fits_after M row (suc n) ≡ true → never_ends M row ≡ false
  ends_if mission n fits = by (never_ends M row) refl
    where
      by : (b : Bool) → never_ends M row ≡ b → b ≡ false
      by true e = differ (sym fits ∙ never_fits_after mission e n)
      by false e = refl

  pub ends_if_first : IsMission M → (k : ℕ) → FitsFirst M row k → never_ends M row ≡ false
  ends_if_first mission zero first = absurd (omega (arith, first.some))
  ends_if_first mission (suc n) first = ends_if mission n first.fits

  -- ---- within the cycles of a run

  pub length_if : (k : ℕ) → FitsFirst M row k → k ≤ 2000 → transfer_length M row ≡ Some k
  length_if k first few = first_length M row k few (is_first k first)

  pub first_if : (k : ℕ) → transfer_length M row ≡ Some k → FitsFirst M row k × (k ≤ 2000)
  unfolding transfer_length
  first_if k h = (first_is k (length_first M row k h), omega (arith, found_under 1 most_cycles k h))

  pub none_if : ((j : ℕ) → 1 ≤ j → j ≤ 2000 → fits_after M row j ≡ false) → transfer_length M row ≡ None
  unfolding transfer_length
  none_if none = none_first (fits_after M row) 1 most_cycles (λ j low high. none j low (omega (arith, high)))

  pub no_length_if_never : IsMission M → never_ends M row ≡ true → transfer_length M row ≡ None
  no_length_if_never mission never = none_if (λ j low few. by j low)
    where
      by : (j : ℕ) → 1 ≤ j → fits_after M row j ≡ false
      by zero low = absurd (omega (arith, low))
      by (suc n) low = never_fits_after mission never n

  pub never_of_row : never_ends M (row_of M row) ≡ never_ends M row
  unfolding never_ends
  never_of_row = ap is_none
      (first_alike M (fits_after M (row_of M row)) (fits_after M row) 1 (most_states M) (fits_of_row M row))
