-- Whatever the log holds, at most two channels are declared joined in a cycle, and at least three of the active ones
-- stay.
use Rattle.std.proofs.Common.{◌≡◌, ℕ, zero, suc, ◌+◌, ◌≤◌, ◌==◌, inl, inr, Bool, true, false, cond, not, ◌&&◌, ◌||◌, List, [], ◌∷◌, length, Option, None, Some, refl, sym, ap, subst, ◌∙◌, arith}
use Rattle.std.specs.Prelude.{filter, nat_le, count_by}
use Rattle.std.specs.List.{list_all}
use Rattle.std.proofs.lemmas.Bool.{leb-true}
use Rattle.std.proofs.lemmas.List.{length-take}
use Rattle.std.proofs.lemmas.List.Sums.{length-filter}
use Rattle.guards_model.specs.Channels.{Channel, ChannelSet, has, without, place_or}
use Rattle.guards_model.specs.Missions.{MissionValue, IsMission, within, is_law}
use Rattle.guards_model.specs.Network.{Log}
use Rattle.guards_model.specs.Frames.{is_set, is_distinct}
use Rattle.guards_model.specs.Diagnosis.{Agreed, asks}
use Rattle.guards_model.specs.Transfers.{TransferValue, stays, kept_targets, new_targets, transfer_to, start_of}
use Rattle.guards_model.specs.Decisions.{joined_of}
use Rattle.guards_runs.specs.Cycles.{Cycle, Past, running_transfer, entries_of, cycle_start_of, agreement_of, decision_of, work_of, cycle_from, next_cycle, cycles_before}
use Rattle.guards_model.proofs.Tables.{has-filter, has-channels_where}
use Rattle.guards_model.proofs.BoolTests.{both, differ, second_true, and_true, or_true, or_left}
use Rattle.guards_model.proofs.Counting.{one_if, count-cons, count-not, count-all, count_le, count-within, distinct-filter, has-head}
use Rattle.guards_model.proofs.AscendingLists.{set-filter, set-distinct, member-channel}
use Rattle.guards_laws.proofs.FirstFit.{either, runs_on}
use Rattle.guards_laws.proofs.Transferring.{made_of}
use Rattle.guards_laws.proofs.WithinChannels.{active_is_set}
use Rattle.guards_laws.proofs.CycleParts.{active-is}
use Rattle.guards_laws.proofs.Planned.{joined_set}
use Rattle.guards_laws.proofs.StayActive.{three_left, three_active, joined_passive}
use Rattle.recovery_laws.proofs.Judgement.{removed-is}

-- ---- lists

in_all : (P : ℕ → Bool) (xs : List ℕ) → ((q : ℕ) → has xs q ≡ true → P q ≡ true) → list_all P xs ≡ true
in_all P [] h = refl
in_all P (x ∷ xs) h = and_true (P x) (list_all P xs) (h x (has-head x xs))
    (in_all P xs (λ q there. h q (or_true (x == q) (has xs q) there)))

-- of a list without repetition no more are members of another one than it has
pub few_members : (members xs : List ℕ) → is_distinct members ≡ true → is_distinct xs ≡ true →
    count_by (has members) xs ≤ length members
few_members members xs dm dx =
    let inside : list_all (has members) (filter (has members) xs) ≡ true =
    in_all (has members) (filter (has members) xs)
    (λ q there. (both (has members q) (has xs q) (sym (has-filter (has members) xs q) ∙ there)).0) in
    let counted = count-within (λ q. true) members (filter (has members) xs) dm (distinct-filter (has members) xs dx)
    inside in
    omega (arith, counted, count-all members, count-all (filter (has members) xs), length-filter (has members) xs)

-- those that pass one test and not another are no fewer than those that pass the one, but for those that pass the other
pub count_without : (p r : ℕ → Bool) (xs : List ℕ) → count_by r xs ≤ count_by (λ j. not (p j) && r j) xs + count_by p xs
unfolding one_if
count_without p r [] = omega arith
count_without p r (x ∷ xs) =
    omega (
      arith,
      count-cons r x xs,
      count-cons (λ j. not (p j) && r j) x xs,
      count-cons p x xs,
      one (p x) (r x),
      count_without p r xs,
    )
  where
    one : (a b : Bool) → one_if b ≤ one_if (not a && b) + one_if a
    one true true = omega arith
    one true false = omega arith
    one false b = omega arith

module _ (M : MissionValue) (L : Log) (mission : IsMission M) where
  few_returning : M.rules.returning ≤ 2
  few_returning =
      let a = both ((within 3 7 M.rules.channels && within 1 256 M.rules.blocks)
      && (within 0 65536 M.rules.keep && within 65536 6553600 M.rules.threshold))
      ((within 1 64 M.rules.sweep && within 0 64 M.rules.last)
      && ((within 1 2 M.rules.version && is_law M.rules.version M.rules.law)
      && (within 0 6553600 M.rules.decrement && within 1 2 M.rules.returning))) mission.rules in
      let b = second_true (within 1 64 M.rules.sweep && within 0 64 M.rules.last)
      ((within 1 2 M.rules.version && is_law M.rules.version M.rules.law)
      && (within 0 6553600 M.rules.decrement && within 1 2 M.rules.returning)) a.1 in
      let c = second_true (within 1 2 M.rules.version && is_law M.rules.version M.rules.law)
      (within 0 6553600 M.rules.decrement && within 1 2 M.rules.returning) b in
      let d = second_true (within 0 6553600 M.rules.decrement) (within 1 2 M.rules.returning) c in
      leb-true M.rules.returning 2 (both (nat_le 1 M.rules.returning) (nat_le M.rules.returning 2) d).1

  -- ---- at most two join

  kept_few : (past : Past) (active : ChannelSet) (agreed : Agreed) (c : ℕ) (o : Option TransferValue)
      (t : TransferValue) → running_transfer past ≡ o →
      ((r : TransferValue) → running_transfer past ≡ Some r → length r.targets ≤ 2) →
      transfer_to (kept_targets active agreed c o) (start_of o) ≡ Some t → length t.targets ≤ 2
  kept_few past active agreed c None t e before h = absurd cc
  kept_few past active agreed c (Some running) t e before h =
      omega (
        arith,
        before running e,
        ap length (made_of (filter (stays active agreed c running) running.targets) running.start t h).targets_are,
        length-filter (stays active agreed c running) running.targets,
        Rattle.std.proofs.lemmas.List.Sums.count_by-le-length (stays active agreed c running) running.targets,
      )

  few_by : (past : Past) (t : TransferValue) → (next_cycle M L past).transfer ≡ Some t →
      ((r : TransferValue) → running_transfer past ≡ Some r → length r.targets ≤ 2) → length t.targets ≤ 2
  unfolding cycle_from decision_of cycle_start_of
  few_by past t h before =
      let o = cycle_start_of M past in
      let agreed : Agreed = (agreement_of M (entries_of (length past) L) past o).agreed in
      elim (either (transfer_to (kept_targets o.active agreed (length past) (running_transfer past))
      (start_of (running_transfer past)))
      (transfer_to (new_targets M.rules.channels M.rules.returning o.active o.fresh agreed) (length past)) t h) [
        | inl k ↦ kept_few past o.active agreed (length past) (running_transfer past) t refl before k
        | inr k ↦ omega (
          arith,
          few_returning,
          ap length (made_of (new_targets M.rules.channels M.rules.returning o.active o.fresh agreed) (length past) t
              k).targets_are,
          length-take M.rules.returning
              (filter (asks o.active o.fresh agreed)
              (without (Rattle.guards_model.specs.Channels.numbers_below M.rules.channels) o.active)),
        )
      ]

  targets_few : (n : ℕ) (t : TransferValue) → (next_cycle M L (cycles_before M L n)).transfer ≡ Some t →
      length t.targets ≤ 2
  targets_few zero t h = few_by (cycles_before M L zero) t h (λ r k. absurd (none r k))
    where
      none : (r : TransferValue) → None ≡ Some r → ⊥
      none r h = cc
  targets_few (suc n) t h =
      let e = next_cycle M L (cycles_before M L n) in
      few_by (cycles_before M L (suc n)) t h (λ r k. targets_few n r (runs_on e.joined e.transfer r k).1)

  joined_few_of : (rest : List ℕ) (o : Option TransferValue) →
      ((t : TransferValue) → o ≡ Some t → length t.targets ≤ 2) → length (joined_of M.rules.last o rest) ≤ 2
  joined_few_of rest None h = omega arith
  joined_few_of rest (Some t) h = by (nat_le (length rest) M.rules.last)
    where
      by : (b : Bool) → length (cond b t.targets []) ≤ 2
      by true = h t refl
      by false = omega arith

  pub joined_few : (n : ℕ) → length (next_cycle M L (cycles_before M L n)).joined ≤ 2
  unfolding cycle_from work_of
  joined_few n = joined_few_of (next_cycle M L (cycles_before M L n)).remaining
      (next_cycle M L (cycles_before M L n)).transfer (targets_few n)

  -- ---- at least three stay

  abbrev now : ℕ → Cycle
  now n = next_cycle M L (cycles_before M L n)

  pub set_next : (n : ℕ) → is_set (now n).active ≡ true
  set_next n = ap is_set (active-is M L (cycles_before M L n)) ∙ active_is_set M (cycles_before M L n) mission

  pub three_next : (n : ℕ) → 3 ≤ length (now n).active
  three_next n = subst (λ s. 3 ≤ length s) (sym (active-is M L (cycles_before M L n))) (three_active M L mission n)

  three_stay : (n : ℕ) → 3 ≤ length (without (now n).active (now n).removed)
  three_stay n =
      subst (λ r. 3 ≤ length (without (now n).active r)) (sym (removed-is M L (cycles_before M L n)))
      (three_left (now n).active
      (λ q. nat_le M.rules.threshold (place_or (now n).counts q 0)
      || asks (now n).active (now n).fresh (now n).agreed q) (set_next n) (three_next n))

  -- whether a channel did not just join
  abbrev pub old : ℕ → Channel → Bool
  old n j = not (has (next_cycle M L (cycles_before M L n)).joined j)

  old_if_active : (n : ℕ) (j : Channel) → has (now n).active j ≡ true → old n j ≡ true
  old_if_active n j there = by (has (now n).joined j) refl
    where
      by : (b : Bool) → has (now n).joined j ≡ b → not b ≡ true
      by true e = differ (sym there ∙ joined_passive M L n j e)
      by false e = refl

  stays_active : (n : ℕ) (j : Channel) → has (without (now n).active (now n).removed) j ≡ true →
      has (now (suc n)).active j ≡ true
  stays_active n j there =
      let was : has (now n).active j ≡ true =
      (both (not (has (now n).removed j)) (has (now n).active j)
      (sym (has-filter (λ q. not (has (now n).removed q)) (now n).active j) ∙ there)).1 in
      ap (λ s. has s j) (active-is M L (cycles_before M L (suc n)))
      ∙ has-channels_where (λ q. has (without (now n).active (now n).removed) q || has (now n).joined q) j
      (member-channel (now n).active j (set_next n) was)
      ∙ or_left (has (without (now n).active (now n).removed) j) (has (now n).joined j) there

  -- of the active channels of a cycle at least three, and all but two, were active in the one before
  pub old_many : (n : ℕ) → 3 ≤ count_by (old n) (now (suc n)).active
  old_many n =
      let stayed : ChannelSet = without (now n).active (now n).removed in
      let distinct : is_distinct stayed ≡ true =
      set-distinct stayed (set-filter (λ q. not (has (now n).removed q)) (now n).active (set_next n)) in
      let inside : list_all (has (now (suc n)).active) stayed ≡ true =
      in_all (has (now (suc n)).active) stayed (stays_active n) in
      let counted = count-within (old n) (now (suc n)).active stayed
      (set-distinct (now (suc n)).active (set_next (suc n))) distinct inside in
      let all = count_le (λ q. true) (old n) stayed (λ j there h. old_if_active n j
      (both (not (has (now n).removed j)) (has (now n).active j)
      (sym (has-filter (λ q. not (has (now n).removed q)) (now n).active j) ∙ there)).1) in
      omega (arith, counted, all, count-all stayed, three_stay n)

  pub new_few : (n : ℕ) → length (now (suc n)).active ≤ count_by (old n) (now (suc n)).active + 2
  new_few n =
      omega (
        arith,
        count-not (has (now n).joined) (now (suc n)).active,
        few_members (now n).joined (now (suc n)).active (set-distinct (now n).joined (joined_set M L mission n))
            (set-distinct (now (suc n)).active (set_next (suc n))),
        joined_few n,
      )
