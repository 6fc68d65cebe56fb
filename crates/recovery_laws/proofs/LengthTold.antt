-- What a transfer plans, writes and leaves is what its row tells: an induction over the cycles of a run.
use Rattle.std.proofs.Common.{◌≡◌, ℕ, zero, suc, ◌+◌, ◌<◌, ◌≤◌, ◌⊎◌, inl, inr, Bool, true, false, cond, [], ◌∷◌, length, None, Some, refl, sym, ap, subst, ◌∙◌, arith}
use Rattle.std.specs.Prelude.{nat_le, IsTrue}
use Rattle.std.proofs.lemmas.Bool.{cases_lt}
use Rattle.guards_model.specs.Channels.{Channel, has}
use Rattle.guards_model.specs.Missions.{MissionValue, IsMission, written_blocks}
use Rattle.guards_model.specs.Network.{Log}
use Rattle.guards_model.specs.Transfers.{TransferValue, TransferCycle, remaining_blocks, planned_blocks}
use Rattle.guards_model.specs.Decisions.{joined_of}
use Rattle.guards_model.proofs.BoolTests.{differ}
use Rattle.guards_runs.specs.Cycles.{Past, swept_since, plan_of, remaining_of, work_of, cycle_from, next_cycle, cycles_before}
use Rattle.guards_runs.specs.Promises.{EachCycle, is_transfer_to}
use Rattle.guards_laws.proofs.FirstFit.{runs_on}
use Rattle.guards_laws.proofs.Transferring.{IsKept, started_or_kept, transfer_of, swept_now, swept_none}
use Rattle.guards_laws.proofs.EachFollowed.{starts_by}
use Rattle.guards_laws.proofs.Planned.{ranges, planned-is}
use Rattle.guards_laws.proofs.LogGrows.{length-cycles_before}
use Rattle.recovery_laws.specs.Lengths.{transfer_cycles, fits_after, transfer_length, TakesJust, TakeLength}
use Rattle.recovery_laws.proofs.FirstFrom.{IsFirst}
use Rattle.recovery_laws.proofs.Counted.{cycles_of_row, length_of_row, length_first, first_length}

module _ (M : MissionValue) (L : Log) (mission : IsMission M) where
  -- the cycles since the start were told, and after none of them the rest fitted
  pub record IsTold (past : Past) (s : ℕ) : Type 0 where
    pub count : ℕ
    pub place : length past ≡ s + count
    pub told : swept_since M s past ≡ transfer_cycles M s count
    pub unfitted : (j : ℕ) → 1 ≤ j → j ≤ count → fits_after M s j ≡ false

  from_start : (past : Past) (s : ℕ) → s ≡ length past → IsTold past s
  from_start past s h =
      record {
        count = 0;
        place = omega (arith, h);
        told = ap (λ k. swept_since M k past) h ∙ swept_none M past;
        unfitted = λ j low high. absurd (omega (arith, low, high));
      }

  now_remaining : (past : Past) →
      (next_cycle M L past).remaining ≡ remaining_of M past (next_cycle M L past).transfer (next_cycle M L past).planned
  unfolding cycle_from work_of
  now_remaining past = refl

  now_joined : (past : Past) →
      (next_cycle M L past).joined
      ≡ joined_of M.rules.last (next_cycle M L past).transfer (next_cycle M L past).remaining
  unfolding cycle_from work_of
  now_joined past = refl

  -- a cycle of the transfer, after those that were told
  module _ (past : Past) (t : TransferValue) (runs : (next_cycle M L past).transfer ≡ Some t)
      (before : IsTold past t.start) where
    pub plans : (next_cycle M L past).planned
        ≡ planned_blocks M.rules.blocks M.rules.sweep (transfer_cycles M t.start before.count)
    plans = planned-is M L mission past ∙ ap (plan_of M past) runs
        ∙ ap (planned_blocks M.rules.blocks M.rules.sweep) before.told

    abbrev here : TransferCycle
    here = record { planned = (next_cycle M L past).planned; written = written_blocks M (length past) }

    longer : here ∷ swept_since M t.start past ≡ transfer_cycles M t.start (suc before.count)
    longer =
        ap (λ cycles. here ∷ cycles) before.told
        ∙ ap (λ planned. record { planned = planned; written = written_blocks M (length past) }
        ∷ transfer_cycles M t.start before.count) plans
        ∙ ap (λ c. record {
          planned =
              planned_blocks M.rules.blocks M.rules.sweep (transfer_cycles M t.start before.count);
          written = written_blocks M c;
        } ∷ transfer_cycles M t.start before.count) before.place

    pub leaves : (next_cycle M L past).remaining
        ≡ remaining_blocks M.rules.blocks (transfer_cycles M t.start (suc before.count))
    leaves = now_remaining past ∙ ap (λ o. remaining_of M past o (next_cycle M L past).planned) runs
        ∙ ap (remaining_blocks M.rules.blocks) longer

    joined_by : (q : Channel) (b : Bool) → has t.targets q ≡ true → has (cond b t.targets []) q ≡ b
    joined_by q true there = there
    joined_by q false there = refl

    pub joins : (q : Channel) → has t.targets q ≡ true →
        has (next_cycle M L past).joined q ≡ fits_after M t.start (suc before.count)
    joins q there =
        ap (λ js. has js q) (now_joined past ∙ ap (λ o. joined_of M.rules.last o (next_cycle M L past).remaining) runs)
        ∙ joined_by q (nat_le (length (next_cycle M L past).remaining) M.rules.last) there
        ∙ ap (λ rest. nat_le (length rest) M.rules.last) leaves

  one_more : (n : ℕ) (r : TransferValue) (q : Channel) → (next_cycle M L (cycles_before M L n)).transfer ≡ Some r →
      (next_cycle M L (cycles_before M L n)).joined ≡ [] → has r.targets q ≡ true →
      IsTold (cycles_before M L n) r.start → IsTold (cycles_before M L (suc n)) r.start
  one_more n r q runs none there before =
      let past = cycles_before M L n in
      let unfit_now : fits_after M r.start (suc before.count) ≡ false =
      sym (joins past r runs before q there) ∙ ap (λ js. has js q) none in
      record {
        count = suc before.count;
        place = omega (arith, before.place);
        told = swept_now M r.start (next_cycle M L past) past (starts_by M L n r runs) ∙ longer past r runs before;
        unfitted = λ j low high. by j low high unfit_now (cases_lt before.count j);
      }
    where
      by : (j : ℕ) → 1 ≤ j → j ≤ suc before.count → fits_after M r.start (suc before.count) ≡ false → (before.count < j)
          ⊎ (j ≤ before.count) → fits_after M r.start j ≡ false
      by j low high now (inl above) = let same : j ≡ suc before.count = omega (arith, above, high) in
          ap (fits_after M r.start) same ∙ now
      by j low high now (inr under) = before.unfitted j low under

  told_by : (n : ℕ) (t : TransferValue) (q : Channel) → has t.targets q ≡ true →
      (t.start ≡ length (cycles_before M L n)) ⊎ IsKept (cycles_before M L n) t →
      ((k : ℕ) (r : TransferValue) → suc k ≡ n → has r.targets q ≡ true →
      (next_cycle M L (cycles_before M L k)).transfer ≡ Some r → IsTold (cycles_before M L k) r.start) →
      IsTold (cycles_before M L n) t.start
  told_by n t q there (inl starts) before = from_start (cycles_before M L n) t.start starts
  told_by zero t q there (inr kept) before = absurd (none kept.running kept.ran)
    where
      none : (r : TransferValue) → None ≡ Some r → ⊥
      none r h = cc
  told_by (suc k) t q there (inr kept) before =
      let e = next_cycle M L (cycles_before M L k) in
      let on = runs_on e.joined e.transfer kept.running kept.ran in
      let target = kept.within q there in
      subst (IsTold (cycles_before M L (suc k))) (sym kept.same_start)
      (one_more k kept.running q on.1 on.0 target (before k kept.running refl target on.1))

  pub told_all : (n : ℕ) (t : TransferValue) (q : Channel) → has t.targets q ≡ true →
      (next_cycle M L (cycles_before M L n)).transfer ≡ Some t → IsTold (cycles_before M L n) t.start
  told_all zero t q there runs =
      told_by zero t q there (started_or_kept M L (cycles_before M L zero) t runs)
      (λ k r e h k2. absurd (omega (arith, e)))
  told_all (suc n) t q there runs =
      told_by (suc n) t q there (started_or_kept M L (cycles_before M L (suc n)) t runs)
      (λ k r e target h.
      let same : k ≡ n = omega (arith, e) in
      subst (λ m. IsTold (cycles_before M L m) r.start) (sym same)
      (told_all n r q target (subst (λ m. (next_cycle M L (cycles_before M L m)).transfer ≡ Some r) same h)))

  -- ---- the length

  module _ (past : Past) (s : ℕ) (told : IsTold past s) where
    pub within_length : (k : ℕ) → transfer_length M s ≡ Some k → told.count < k
    within_length k h = by (cases_lt told.count k)
      where
        first : IsFirst (fits_after M s) 1 k
        first = length_first M s k h

        by : (told.count < k) ⊎ (k ≤ told.count) → told.count < k
        by (inl less) = less
        by (inr more) = differ (sym first.passes ∙ told.unfitted k first.from more)

    pub is_last : told.count < 2000 → fits_after M s (suc told.count) ≡ true →
        transfer_length M s ≡ Some (suc told.count)
    is_last few fits =
        first_length M s (suc told.count) (omega (arith, few))
        (record { from = omega arith; passes = fits; none = λ j low high. told.unfitted j low (omega (arith, high)) })

  pub takes : (n : ℕ) → n < M.cycles → (q : Channel) (s : ℕ) →
      IsTrue (is_transfer_to q s (next_cycle M L (cycles_before M L n)).transfer) →
      TakesJust M (cycles_before M L n) (next_cycle M L (cycles_before M L n)) q s
  takes n few q s h =
      let past = cycles_before M L n in
      let tr = transfer_of q s (next_cycle M L past).transfer h in
      subst (TakesJust M past (next_cycle M L past) q) tr.starts
      (takes_just n few q tr.transfer tr.runs tr.target (told_all n tr.transfer q tr.target tr.runs))
    where
      takes_just : (n : ℕ) → n < M.cycles → (q : Channel) (t : TransferValue) →
          (next_cycle M L (cycles_before M L n)).transfer ≡ Some t → has t.targets q ≡ true →
          IsTold (cycles_before M L n) t.start →
          TakesJust M (cycles_before M L n) (next_cycle M L (cycles_before M L n)) q t.start
      takes_just n few q t runs there told =
          let past = cycles_before M L n in
          let s : ℕ = t.start in
          let at_row = length_of_row M s in
          let small : told.count < 2000 =
          omega (arith, told.place, length-cycles_before M L n, few, (ranges M mission).cycles) in
          record {
            count = told.count;
            place = told.place;
            before = told.told ∙ sym (cycles_of_row M s told.count);
            planned = plans past t runs told
                ∙ ap (planned_blocks M.rules.blocks M.rules.sweep) (sym (cycles_of_row M s told.count));
            remaining = leaves past t runs told
                ∙ ap (remaining_blocks M.rules.blocks) (sym (cycles_of_row M s (suc told.count)));
            within = λ k h. within_length past s told k (sym at_row ∙ h);
            joined = (
              λ j. at_row ∙ is_last past s told small (sym (joins past t runs told q there) ∙ j),
              λ h. joins past t runs told q there ∙ (length_first M s (suc told.count) (sym at_row ∙ h)).passes,
            );
          }

  pub each_takes : (n : ℕ) → n ≤ M.cycles → EachCycle (TakeLength M) (cycles_before M L n)
  each_takes zero few = tt
  each_takes (suc n) few = (λ q s h. takes n (omega (arith, few)) q s h, each_takes n (omega (arith, few)))
