-- The tags count the length along, and what the row alone tells.
use Rattle.std.proofs.Common.{◌≡◌, ℕ, zero, suc, ◌+◌, ◌-◌, ◌<◌, ◌≤◌, ◌⊎◌, inl, inr, Bool, true, false, cond, List, [], ◌∷◌, length, None, Some, refl, sym, ap, ◌∙◌, arith}
use Rattle.std.specs.Prelude.{nat_le, ◌%◌, map, slice_get, unwrap_or}
use Rattle.std.proofs.lemmas.Bool.{cases_lt}
use Rattle.std.proofs.Math.Nat.{mod-add-mod, add-mod-mod}
use Rattle.guards_model.specs.Missions.{MissionValue, written_blocks}
use Rattle.guards_model.specs.Tags.{TagsValue, tags_of, tags_noted, tags_closed, plan_by_tags}
use Rattle.guards_model.specs.Tasks.{WriteValue, writes_of}
use Rattle.guards_model.specs.Transfers.{TransferCycle, remaining_blocks, planned_blocks}
use Rattle.guards_model.proofs.TagSteps.{tags_plan, tags_close, tags_remain, stand_noted}
use Rattle.recovery_laws.specs.Lengths.{transfer_cycles, fits_after, first_from, most_cycles, transfer_length, row_of, next_tags, tags_in_transfer, counted_from, counted_length, GoesRound}
use Rattle.recovery_laws.proofs.FirstFrom.{IsFirst, same_number, found, least, none_passes, none_first}

-- ---- the tags stand for the cycles

module _ (M : MissionValue) where
  abbrev B : ℕ
  B = M.rules.blocks

  noted : (cycles : List TransferCycle) (written : List ℕ) →
      tags_noted written (tags_of B cycles []) ≡ tags_of B cycles written
  unfolding tags_of
  noted cycles written = stand_noted (tags_of B cycles []) cycles written refl

  step : (c : ℕ) (cycles : List TransferCycle) →
      next_tags M c (tags_of B cycles [])
      ≡ tags_of B (record { planned = planned_blocks B M.rules.sweep cycles; written = written_blocks M c }
      ∷ cycles) []
  step c cycles =
      ap (λ p. tags_closed p (tags_noted (written_blocks M c) (tags_of B cycles [])))
      (tags_plan B cycles [] M.rules.sweep)
      ∙ ap (tags_closed (planned_blocks B M.rules.sweep cycles)) (noted cycles (written_blocks M c))
      ∙ tags_close B cycles (written_blocks M c) (planned_blocks B M.rules.sweep cycles)

  pub after-is : (s n : ℕ) → tags_in_transfer M s n ≡ tags_of B (transfer_cycles M s n) []
  after-is s zero = refl
  after-is s (suc n) = ap (next_tags M (s + n)) (after-is s n) ∙ step (s + n) (transfer_cycles M s n)

  pub fits-is : (s n : ℕ) → fits_after M s n ≡ nat_le (length (tags_in_transfer M s n).remaining) M.rules.last
  fits-is s n =
      ap (λ rest. nat_le (length rest) M.rules.last)
      (sym (ap (λ (t : TagsValue). t.remaining) (after-is s n) ∙ tags_remain B (transfer_cycles M s n) []))

  counted-is : (s n more : ℕ) (c : ℕ) (tags : TagsValue) → c ≡ s + n → tags ≡ tags_in_transfer M s n →
      counted_from M c tags (suc n) more ≡ first_from (fits_after M s) (suc n) more
  counted-is s n zero c tags e h = refl
  counted-is s n (suc more) c tags e h =
      let next : next_tags M c tags ≡ tags_in_transfer M s (suc n) =
      ap (λ k. next_tags M k tags) e ∙ ap (next_tags M (s + n)) h in
      ap (λ b. cond b (Some (suc n)) (counted_from M (suc c) (next_tags M c tags) (suc (suc n)) more))
      (ap (λ (t : TagsValue). nat_le (length t.remaining) M.rules.last) next ∙ sym (fits-is s (suc n)))
      ∙ ap (cond (fits_after M s (suc n)) (Some (suc n)))
      (counted-is s (suc n) more (suc c) (next_tags M c tags) (omega (arith, e)) next)

  pub counted_first : (row most : ℕ) → counted_length M row most ≡ first_from (fits_after M row) 1 most
  unfolding counted_length
  counted_first row most = counted-is row 0 most row (tags_of B [] []) (omega arith) refl

  pub length_counted : (row : ℕ) → transfer_length M row ≡ counted_length M row most_cycles
  unfolding transfer_length
  length_counted row = sym (counted_first row most_cycles)

  pub length_first : (row k : ℕ) → transfer_length M row ≡ Some k → IsFirst (fits_after M row) 1 k
  unfolding transfer_length
  length_first row k h = found (fits_after M row) 1 most_cycles k h

  pub first_length : (row k : ℕ) → k ≤ 2000 → IsFirst (fits_after M row) 1 k → transfer_length M row ≡ Some k
  unfolding transfer_length
  first_length row k h first = least (fits_after M row) 1 most_cycles k (omega (arith, h)) first

  pub no_length : (row : ℕ) → transfer_length M row ≡ None → (j : ℕ) → 1 ≤ j → j ≤ 2000 → fits_after M row j ≡ false
  unfolding transfer_length
  no_length row h j low high = none_passes (fits_after M row) 1 most_cycles h j low (omega (arith, high))

  under_by : (row n rest k : ℕ) (b : Bool) → cond b (Some n) (first_from (fits_after M row) (suc n) rest) ≡ Some k →
      (first_from (fits_after M row) (suc n) rest ≡ Some k → k < suc n + rest) → k < n + suc rest
  under_by row n rest k true h more = omega (arith, same_number n k h)
  under_by row n rest k false h more = omega (arith, more h)

  found_under : (row n rest k : ℕ) → first_from (fits_after M row) n rest ≡ Some k → k < n + rest
  found_under row n zero k h = absurd cc
  found_under row n (suc rest) k h = under_by row n rest k (fits_after M row n) h (found_under row (suc n) rest k)

  pub fewer_counted : (row most k : ℕ) → most ≤ 2000 → counted_length M row most ≡ Some k →
      transfer_length M row ≡ Some k
  fewer_counted row most k few h =
      let there : first_from (fits_after M row) 1 most ≡ Some k = sym (counted_first row most) ∙ h in
      first_length row k (omega (arith, few, found_under row 1 most k there)) (found (fits_after M row) 1 most k there)

  -- ---- the row alone

  written_in_row : (a b : ℕ) → row_of M a ≡ row_of M b → written_blocks M a ≡ written_blocks M b
  written_in_row a b h = ap (λ r. map (λ (w : WriteValue). w.block) (writes_of (unwrap_or (slice_get M.table r) []))) h

  pub cycles_of_row : (s n : ℕ) → transfer_cycles M (row_of M s) n ≡ transfer_cycles M s n
  cycles_of_row s zero = refl
  cycles_of_row s (suc n) =
      ap (λ cycles. record {
        planned = planned_blocks B M.rules.sweep cycles;
        written = written_blocks M (row_of M s + n);
      } ∷ cycles) (cycles_of_row s n)
      ∙ ap (λ written. record { planned = planned_blocks B M.rules.sweep (transfer_cycles M s n); written = written }
      ∷ transfer_cycles M s n)
      (written_in_row (row_of M s + n) (s + n) (mod-add-mod s (length M.table) n))

  pub first_alike : (f g : ℕ → Bool) (n more : ℕ) → ((j : ℕ) → f j ≡ g j) → first_from f n more ≡ first_from g n more
  first_alike f g n zero h = refl
  first_alike f g n (suc more) h =
      ap (λ b. cond b (Some n) (first_from f (suc n) more)) (h n)
      ∙ ap (cond (g n) (Some n)) (first_alike f g (suc n) more h)

  pub fits_of_row : (s j : ℕ) → fits_after M (row_of M s) j ≡ fits_after M s j
  fits_of_row s j = ap (λ cycles. nat_le (length (remaining_blocks B cycles)) M.rules.last) (cycles_of_row s j)

  pub length_of_row : (s : ℕ) → transfer_length M (row_of M s) ≡ transfer_length M s
  unfolding transfer_length
  length_of_row s = first_alike (fits_after M (row_of M s)) (fits_after M s) 1 most_cycles (fits_of_row s)

  -- ---- transfers that go round

  module _ (s i d : ℕ) (round : GoesRound M s i d) where
    row_again : (k : ℕ) → row_of M (k + d) ≡ row_of M k
    row_again k = sym (add-mod-mod k d (length M.table)) ∙ ap (λ r. (k + r) % length M.table) round.rows
        ∙ ap (λ r. r % length M.table) (plus_none k)
      where
        plus_none : (k : ℕ) → k + 0 ≡ k
        plus_none k = omega arith

    tags_again : (j n m : ℕ) → n ≡ i + d + j → m ≡ i + j → tags_in_transfer M s n ≡ tags_in_transfer M s m
    tags_again zero n m e f = ap (tags_in_transfer M s) (first e) ∙ round.again ∙ ap (tags_in_transfer M s) (second f)
      where
        first : n ≡ i + d + 0 → n ≡ i + d
        first e = omega (arith, e)

        second : m ≡ i + 0 → i ≡ m
        second f = omega (arith, f)
    tags_again (suc j) n m e f =
        let n2 : ℕ = i + d + j in
        let m2 : ℕ = i + j in
        let en : n ≡ suc n2 = omega (arith, e) in
        let em : suc m2 ≡ m = omega (arith, f) in
        let place : s + n2 ≡ s + m2 + d = omega arith in
        ap (tags_in_transfer M s) en
        ∙ ap (next_tags M (s + n2)) (tags_again j n2 m2 refl refl)
        ∙ ap (λ written. tags_closed (plan_by_tags M.rules.sweep (tags_in_transfer M s m2))
        (tags_noted written (tags_in_transfer M s m2)))
        (written_in_row (s + n2) (s + m2) (ap (row_of M) place ∙ row_again (s + m2)))
        ∙ ap (tags_in_transfer M s) em

    unfit_soon : (n : ℕ) → 1 ≤ n → n ≤ i + d → fits_after M s n ≡ false
    unfit_soon n low high = none_passes (fits_after M s) 1 (i + d) (sym (counted_first s (i + d)) ∙ round.unfit) n low
        (omega (arith, high))

    -- where the rest does not fit after fewer cycles
    unfit_next : (N n : ℕ) → 1 ≤ n → n ≤ suc N → ((m : ℕ) → 1 ≤ m → m ≤ N → fits_after M s m ≡ false) → (i + d < n)
        ⊎ (n ≤ i + d) → fits_after M s n ≡ false
    unfit_next N n low high before (inr soon) = unfit_soon n low soon
    unfit_next N n low high before (inl late) =
        let j : ℕ = n - (i + d) in
        let m : ℕ = i + j in
        let en : n ≡ i + d + j = omega (arith, late) in
        let some : 0 < d = round.some in
        fits-is s n
        ∙ ap (λ (t : TagsValue). nat_le (length t.remaining) M.rules.last) (tags_again j n m en refl)
        ∙ sym (fits-is s m)
        ∙ before m (omega (arith, late)) (omega (arith, late, some, high))

    unfit_under : (N n : ℕ) → 1 ≤ n → n ≤ N → fits_after M s n ≡ false
    unfit_under zero n low high = absurd (omega (arith, low, high))
    unfit_under (suc N) n low high = unfit_next N n low high (unfit_under N) (cases_lt (i + d) n)

    pub never_fits : (n : ℕ) → fits_after M s (suc n) ≡ false
    never_fits n = unfit_under (suc n) (suc n) (omega arith) (omega arith)

    pub has_no_length : transfer_length M s ≡ None
    unfolding transfer_length
    has_no_length = none_first (fits_after M s) 1 most_cycles (λ j low high. unfit_under j j low (omega arith))
