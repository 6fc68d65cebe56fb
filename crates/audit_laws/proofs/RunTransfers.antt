-- The transfer of a cycle fits what the records of the earlier cycles tell.
use Rattle.std.proofs.Common.{◌≡◌, ℕ, zero, suc, ◌==◌, ◌≤◌, ◌⊎◌, inl, inr, Bool, true, false, cond, not, ◌&&◌, ◌||◌, List, [], ◌∷◌, length, Option, None, Some, refl, sym, ap, subst, ◌∙◌, arith}
use Rattle.std.specs.Prelude.{nat_le, nat_lt, filter, take}
use Rattle.std.specs.List.{list_all}
use Rattle.std.proofs.lemmas.Bool.{le-leb}
use Rattle.std.proofs.lemmas.List.{length-take}
use Rattle.guards_model.specs.Channels.{ChannelSet, has, without, numbers_below}
use Rattle.guards_model.specs.Missions.{MissionValue, IsMission, within}
use Rattle.guards_model.specs.Diagnosis.{Agreed, asks}
use Rattle.guards_model.specs.Transfers.{TransferValue, stays, kept_targets, new_targets, transfer_to, start_of}
use Rattle.guards_model.specs.Network.{Log}
use Rattle.guards_model.specs.Rounds.{Histories}
use Rattle.guards_runs.specs.Cycles.{Past, active_set, running_transfer, entries_of, cycle_start_of, agreement_of, decision_of, cycle_from, next_cycle, cycles_before}
use Rattle.guards_audit.specs.Told.{next_cycle_number}
use Rattle.guards_audit.specs.Lines.{is_empty}
use Rattle.guards_audit.specs.Tests.{continues, transfer_goes_on, is_passive, transfer_fits}
use Rattle.guards_model.proofs.BoolTests.{and_true, or_true, or_left}
use Rattle.guards_model.proofs.AscendingLists.{member_passes, below_under}
use Rattle.guards_model.proofs.Counting.{has-head}
use Rattle.guards_model.proofs.ListTests.{all-filter, all-take}
use Rattle.guards_laws.proofs.FirstFit.{either, runs_on}
use Rattle.guards_laws.proofs.Transferring.{made_of, IsKept, started_or_kept}
use Rattle.guards_laws.proofs.OnlyRise.{targets_passive}
use Rattle.guards_laws.proofs.WithinChannels.{is_of}
use Rattle.audit_laws.proofs.SameLists.{number_same}
use Rattle.audit_laws.proofs.RunRecords.{records, length-records}

-- what holds of each member of a list holds of all
pub from_members : (P : ℕ → Bool) (xs : List ℕ) → ((q : ℕ) → has xs q ≡ true → P q ≡ true) → list_all P xs ≡ true
from_members P [] h = refl
from_members P (x ∷ xs) h =
    and_true (P x) (list_all P xs) (h x (has-head x xs))
    (from_members P xs (λ q there. h q (or_true (x == q) (has xs q) there)))

pub length-kept : (t : ℕ → Bool) (xs : List ℕ) → length (filter t xs) ≤ length xs
length-kept t [] = omega arith
length-kept t (x ∷ xs) = by_test (t x) (length-kept t xs)
  where
    by_test : (b : Bool) → length (filter t xs) ≤ length xs →
        length (cond b (x ∷ filter t xs) (filter t xs)) ≤ suc (length xs)
    by_test true h = omega arith
    by_test false h = omega arith

-- what is asked of the targets of a transfer
record AreTargets (M : MissionValue) (targets : ChannelSet) : Type 0 where
  few : length targets ≤ M.rules.returning
  of_mission : list_all (is_of M) targets ≡ true

some_targets : (targets : ChannelSet) (start : ℕ) (t : TransferValue) → transfer_to targets start ≡ Some t →
    1 ≤ length targets
some_targets [] start t h = absurd cc
some_targets (q ∷ targets) start t h = omega arith

-- a number below another
below_all : (n high : ℕ) → n ≤ high → list_all (λ q. nat_lt q high) (numbers_below n) ≡ true
below_all n high h = below_under n high h

kept_targets_are : (M : MissionValue) (past : Past) (active : ChannelSet) (agreed : Agreed) (c : ℕ)
    (o : Option TransferValue) (t : TransferValue) → running_transfer past ≡ o →
    ((r : TransferValue) → running_transfer past ≡ Some r → AreTargets M r.targets) →
    transfer_to (kept_targets active agreed c o) (start_of o) ≡ Some t →
    (1 ≤ length t.targets) × AreTargets M t.targets
kept_targets_are M past active agreed c None t e before h = absurd cc
kept_targets_are M past active agreed c (Some running) t e before h =
    let m = made_of (filter (stays active agreed c running) running.targets) running.start t h in
    let b = before running e in (
      subst (λ ts. 1 ≤ length ts) (sym m.targets_are)
          (some_targets (filter (stays active agreed c running) running.targets) running.start t h),
      subst (AreTargets M) (sym m.targets_are)
          (record {
            few = omega (arith, length-kept (stays active agreed c running) running.targets, b.few);
            of_mission = all-filter (is_of M) (stays active agreed c running) running.targets b.of_mission;
          }),
    )

new_targets_are : (M : MissionValue) (active fresh : ChannelSet) (agreed : Agreed) (c : ℕ) (t : TransferValue) →
    transfer_to (new_targets M.rules.channels M.rules.returning active fresh agreed) c ≡ Some t →
    (1 ≤ length t.targets) × AreTargets M t.targets
new_targets_are M active fresh agreed c t h =
    let all : List ℕ = filter (asks active fresh agreed) (without (numbers_below M.rules.channels) active) in
    let m = made_of (take M.rules.returning all) c t h in (
      subst (λ ts. 1 ≤ length ts) (sym m.targets_are) (some_targets (take M.rules.returning all) c t h),
      subst (AreTargets M) (sym m.targets_are)
          (record {
            few = omega (arith, length-take M.rules.returning all);
            of_mission = all-take (is_of M) M.rules.returning all
                (all-filter (is_of M) (asks active fresh agreed) (without (numbers_below M.rules.channels) active)
                (all-filter (is_of M) (λ q. not (has active q)) (numbers_below M.rules.channels)
                (below_all M.rules.channels M.rules.channels (omega arith))));
          }),
    )

module _ (M : MissionValue) (L : Log) where
  targets_by : (past : Past) (t : TransferValue) → (next_cycle M L past).transfer ≡ Some t →
      ((r : TransferValue) → running_transfer past ≡ Some r → AreTargets M r.targets) →
      (1 ≤ length t.targets) × AreTargets M t.targets
  unfolding cycle_from decision_of cycle_start_of
  targets_by past t h before =
      let o = cycle_start_of M past in
      let agreed : Agreed = (agreement_of M (entries_of (length past) L) past o).agreed in
      elim (either (transfer_to (kept_targets o.active agreed (length past) (running_transfer past))
      (start_of (running_transfer past)))
      (transfer_to (new_targets M.rules.channels M.rules.returning o.active o.fresh agreed) (length past)) t h) [
        | inl k ↦ kept_targets_are M past o.active agreed (length past) (running_transfer past) t refl before k
        | inr k ↦ new_targets_are M o.active o.fresh agreed (length past) t k
      ]

  targets_are : (n : ℕ) (t : TransferValue) → (next_cycle M L (cycles_before M L n)).transfer ≡ Some t →
      (1 ≤ length t.targets) × AreTargets M t.targets
  targets_are zero t h = targets_by (cycles_before M L zero) t h (λ r k. absurd (none r k))
    where
      none : (r : TransferValue) → None ≡ Some r → ⊥
      none r h = cc
  targets_are (suc n) t h =
      let e = next_cycle M L (cycles_before M L n) in
      targets_by (cycles_before M L (suc n)) t h (λ r k. (targets_are n r (runs_on e.joined e.transfer r k).1).1)

  empty_is : (joined : ChannelSet) → joined ≡ [] → is_empty joined ≡ true
  empty_is joined h = ap is_empty h

  goes_by : (histories : Histories) (n : ℕ) (t : TransferValue) → (t.start ≡ length (cycles_before M L n))
      ⊎ IsKept (cycles_before M L n) t →
      (t.start == next_cycle_number (records M histories (cycles_before M L n))
      || transfer_goes_on (records M histories (cycles_before M L n)) t) ≡ true
  goes_by histories n t (inl starts) =
      or_left (t.start == next_cycle_number (records M histories (cycles_before M L n))) _
      (ap (λ k. t.start == k) (length-records M histories (cycles_before M L n) ∙ sym starts) ∙ number_same t.start)
  goes_by histories zero t (inr kept) = absurd (none kept.running kept.ran)
    where
      none : (r : TransferValue) → None ≡ Some r → ⊥
      none r h = cc
  goes_by histories (suc n) t (inr kept) =
      let e = next_cycle M L (cycles_before M L n) in
      let on = runs_on e.joined e.transfer kept.running kept.ran in
      let same : (kept.running.start == t.start) ≡ true =
      ap (λ s. kept.running.start == s) kept.same_start ∙ number_same kept.running.start in
      let goes : continues (Some kept.running) t ≡ true =
      and_true (kept.running.start == t.start) (list_all (has kept.running.targets) t.targets) same
      (from_members (has kept.running.targets) t.targets kept.within) in
      or_true (t.start == next_cycle_number (records M histories (cycles_before M L (suc n))))
      (is_empty e.joined && continues e.transfer t)
      (and_true (is_empty e.joined) (continues e.transfer t) (empty_is e.joined on.0)
      (ap (λ o. continues o t) on.1 ∙ goes))

  passive_is : (n : ℕ) (t : TransferValue) → (next_cycle M L (cycles_before M L n)).transfer ≡ Some t →
      (active : ChannelSet) → active ≡ active_set M (cycles_before M L n) →
      list_all (is_passive M active) t.targets ≡ true
  passive_is n t runs active same =
      from_members (is_passive M active) t.targets
      (λ q there. and_true (nat_lt q M.rules.channels) (not (has active q))
      (member_passes (is_of M) t.targets q (targets_are n t runs).1.of_mission there)
      (ap not (ap (λ s. has s q) same ∙ targets_passive M L n t q there runs)))

  fits_by : (mission : IsMission M) (histories : Histories) (n : ℕ) (active : ChannelSet) →
      active ≡ active_set M (cycles_before M L n) →
      (o : Option TransferValue) → (next_cycle M L (cycles_before M L n)).transfer ≡ o →
      transfer_fits M (records M histories (cycles_before M L n)) active o ≡ true
  fits_by mission histories n active same None h = refl
  fits_by mission histories n active same (Some t) h =
      let a = targets_are n t h in
      and_true (within 1 M.rules.returning (length t.targets)) _
      (and_true (nat_le 1 (length t.targets)) (nat_le (length t.targets) M.rules.returning)
      (le-leb 1 (length t.targets) a.0) (le-leb (length t.targets) M.rules.returning a.1.few))
      (and_true (list_all (is_passive M active) t.targets) _ (passive_is n t h active same)
      (goes_by histories n t (started_or_kept M L (cycles_before M L n) t h)))

  pub transfer_records : (mission : IsMission M) (histories : Histories) (n : ℕ) (active : ChannelSet) →
      active ≡ active_set M (cycles_before M L n) →
      transfer_fits M (records M histories (cycles_before M L n)) active (next_cycle M L (cycles_before M L n)).transfer
      ≡ true
  transfer_records mission histories n active same =
      fits_by mission histories n active same (next_cycle M L (cycles_before M L n)).transfer refl
