-- A channel that is restarted and heard is removed, restored, and declared joined at the end of its transfer's length.
use Rattle.std.proofs.Common.{◌≡◌, ℕ, zero, suc, ◌+◌, ◌-◌, ◌<◌, ◌≤◌, ◌==◌, ◌⊎◌, inl, inr, Bool, true, false, cond, not, ◌&&◌, ◌||◌, List, [], ◌∷◌, length, Option, None, Some, refl, sym, ap, subst, ◌∙◌, arith, eq-eqb}
use Rattle.std.specs.Prelude.{nat_le, nat_lt, take, filter, find}
use Rattle.std.proofs.lemmas.Bool.{leb-true, leb-false, lt-leb, cases_lt, cases_eq}
use Rattle.guards_model.specs.declared.Slot.{Slot}
use Rattle.guards_model.specs.declared.Slot.TheVariants.{Request, Sweep}
use Rattle.guards_model.specs.Channels.{Channel, ChannelSet, has, place_or, without, numbers_below}
use Rattle.guards_model.specs.Missions.{MissionValue, IsMission, within, is_law}
use Rattle.guards_model.specs.Network.{Log}
use Rattle.guards_model.specs.Decisions.{dropped_of}
use Rattle.guards_model.specs.Diagnosis.{Agreed, enough_heard, asks, candidates_of}
use Rattle.guards_model.specs.Modes.{is_joining}
use Rattle.guards_model.specs.Transfers.{TransferValue, stays, kept_targets, new_targets, transfer_to, transfer_or, transfer_after, start_of}
use Rattle.guards_runs.specs.Cycles.{Past, Cycle, mode_in, active_set, joins_from, joins_since, is_whole, starts_to, starts_of, held_start, running_transfer, cycle_start_of, agreement_of, decision_of, cycle_from, next_cycle, cycles_before}
use Rattle.guards_runs.specs.Due.{targets_of}
use Rattle.guards_runs.specs.Promises.{HasRun, is_transfer_to}
use Rattle.guards_model.proofs.BoolTests.{differ, both, and_true, or_true, or_left, second_true}
use Rattle.guards_model.proofs.Counting.{has-head}
use Rattle.guards_model.proofs.NumbersBelow.{below_there}
use Rattle.guards_model.proofs.Tables.{has-filter, has-channels_where}
use Rattle.guards_laws.proofs.CycleParts.{active-is}
use Rattle.guards_laws.proofs.FirstFit.{runs_on}
use Rattle.guards_laws.proofs.LogGrows.{length-cycles_before}
use Rattle.guards_laws.proofs.OnlyRise.{targets_passive}
use Rattle.guards_laws.proofs.Transferring.{IsKept, started_or_kept, transfer_of}
use Rattle.guards_laws.proofs.WithinChannels.{active_within}
use Rattle.recovery_laws.proofs.JudgedCounts.{low_now}
use Rattle.recovery_laws.proofs.Judgement.{removed-is}
use Rattle.recovery_laws.specs.Lengths.{transfer_length, row_of, dropped_in, IsKeptTo}
use Rattle.recovery_laws.proofs.FirstFrom.{same_number}
use Rattle.recovery_laws.proofs.Counted.{length_first, length_of_row}
use Rattle.recovery_laws.proofs.Goes.{runs_for, ends_at}
use Rattle.recovery_laws.specs.Returning.{IsAlone, IsHeardByAll, ComesBack, IsReturned}
use Rattle.recovery_laws.proofs.Asked.{from_sweep, code_two, own_unjoined, told_next, heard_code, asked_next, asks_next}

-- ---- lists in which nothing else is

first_by : (k x q : ℕ) (xs : List ℕ) (b : Bool) → (x == q) ≡ b → (b ≡ false → has (x ∷ take k xs) x ≡ false) →
    (b || has (take k xs) q) ≡ true
first_by k x q xs true e alone = refl
first_by k x q xs false e alone = differ (sym (has-head x (take k xs)) ∙ alone refl)

first_taken : (k : ℕ) (xs : List ℕ) (q : ℕ) → 1 ≤ k → has xs q ≡ true →
    ((r : ℕ) → (r == q) ≡ false → has (take k xs) r ≡ false) → has (take k xs) q ≡ true
first_taken zero xs q some there alone = absurd (omega (arith, some))
first_taken (suc k) [] q some there alone = absurd cc
first_taken (suc k) (x ∷ xs) q some there alone = first_by k x q xs (x == q) refl (λ e. alone x e)

first_alone : (x q : ℕ) (xs : List ℕ) → ((r : ℕ) → (r == q) ≡ false → has (x ∷ xs) r ≡ false) → has (x ∷ xs) q ≡ true
first_alone x q xs alone = by (x == q) refl
  where
    by : (b : Bool) → (x == q) ≡ b → (b || has xs q) ≡ true
    by true e = refl
    by false e = differ (sym (has-head x xs) ∙ alone x e)

targets_by : (q : ℕ) (kept new : ChannelSet) (s c : ℕ) →
    ((r : ℕ) → (r == q) ≡ false → has (targets_of (transfer_or (transfer_to kept s) (transfer_to new c))) r ≡ false) →
    (((r : ℕ) → (r == q) ≡ false → has new r ≡ false) → has new q ≡ true) →
    has (targets_of (transfer_or (transfer_to kept s) (transfer_to new c))) q ≡ true
targets_by q [] [] s c alone found = found alone
targets_by q [] (x ∷ xs) s c alone found = found alone
targets_by q (x ∷ xs) new s c alone found = first_alone x q xs alone

some_returning : (M : MissionValue) → IsMission M → 1 ≤ M.rules.returning
some_returning M mission =
    let a = both ((within 3 7 M.rules.channels && within 1 256 M.rules.blocks)
    && (within 0 65536 M.rules.keep && within 65536 6553600 M.rules.threshold))
    ((within 1 64 M.rules.sweep && within 0 64 M.rules.last)
    && ((within 1 2 M.rules.version && is_law M.rules.version M.rules.law)
    && (within 0 6553600 M.rules.decrement && within 1 2 M.rules.returning))) mission.rules in
    let b = second_true (within 1 64 M.rules.sweep && within 0 64 M.rules.last)
    ((within 1 2 M.rules.version && is_law M.rules.version M.rules.law)
    && (within 0 6553600 M.rules.decrement && within 1 2 M.rules.returning)) a.1 in
    let c = second_true (within 1 2 M.rules.version && is_law M.rules.version M.rules.law)
    (within 0 6553600 M.rules.decrement && within 1 2 M.rules.returning) b in
    let d = second_true (within 0 6553600 M.rules.decrement) (within 1 2 M.rules.returning) c in
    leb-true 1 M.rules.returning (both (nat_le 1 M.rules.returning) (nat_le M.rules.returning 2) d).0

-- a target that stays is not dropped
kept_by : (active : ChannelSet) (agreed : Agreed) (c : ℕ) (q : Channel) (o : Option TransferValue) →
    ((t : TransferValue) → o ≡ Some t → stays active agreed c t q ≡ true) → has (dropped_of active agreed c o) q ≡ false
kept_by active agreed c q None stay = refl
kept_by active agreed c q (Some t) stay =
    has-filter (λ p. not (stays active agreed c t p)) t.targets q ∙ ap (λ b. not b && has t.targets q) (stay t refl)

less_other : (a b : ℕ) → a < b → (a == b) ≡ false
less_other a b h = grind (arith, h)

same_transfer : (u v : TransferValue) → Some u ≡ Some v → u ≡ v
same_transfer u v h = cc

module _ (M : MissionValue) (L : Log) (n : ℕ) (mission : IsMission M) (early : n ≤ M.cycles) (run : HasRun M L n)
    (q : Channel) where
  abbrev past : ℕ → Past
  past m = cycles_before M L m

  abbrev now : ℕ → Cycle
  now m = next_cycle M L (cycles_before M L m)

  running-is : (m : ℕ) → (now m).running ≡ running_transfer (past m)
  unfolding cycle_from cycle_start_of
  running-is m = refl

  transfer-is : (m : ℕ) → (now m).transfer
      ≡ transfer_after M.rules.channels M.rules.returning (now m).active (now m).fresh (now m).agreed (length (past m))
      (running_transfer (past m))
  unfolding cycle_from agreement_of decision_of cycle_start_of
  transfer-is m = refl

  -- ---- removed, and a target

  removed_now : (m : ℕ) → has (now m).active q ≡ true → asks (now m).active (now m).fresh (now m).agreed q ≡ true →
      IsAlone (now m) q → 3 < length (now m).active → has (now m).removed q ≡ true
  removed_now m there asked alone many =
      let e = now m in
      let wanted : Channel → Bool =
      λ q. nat_le M.rules.threshold (place_or e.counts q 0) || asks e.active e.fresh e.agreed q in
      let candidates : ChannelSet = candidates_of M.rules.threshold e.active e.fresh e.agreed e.counts in
      let candidate : has candidates q ≡ true =
      has-filter wanted e.active q
      ∙ and_true (wanted q) (has e.active q)
      (or_true (nat_le M.rules.threshold (place_or e.counts q 0)) (asks e.active e.fresh e.agreed q) asked) there in
      ap (λ s. has s q) (removed-is M L (past m))
      ∙ first_taken (length e.active - 3) candidates q (omega (arith, many)) candidate
      (λ r other. sym (ap (λ s. has s r) (removed-is M L (past m))) ∙ (alone r other).0)

  passive_next : (m : ℕ) → q < 7 → has (now m).active q ≡ true → has (now m).removed q ≡ true →
      has (active_set M (past (suc m))) q ≡ false
  passive_next m low there gone =
      let e = now m in
      has-channels_where (λ q. has (without e.active e.removed) q || has e.joined q) q low
      ∙ ap (λ b. b || has e.joined q)
      (has-filter (λ q. not (has e.removed q)) e.active q ∙ ap (λ b. not b && has e.active q) gone)
      ∙ own_unjoined M L n mission early run q m there

  started : (m : ℕ) → has (now m).active q ≡ true → has (active_set M (past (suc m))) q ≡ false →
      asks (now (suc m)).active (now (suc m)).fresh (now (suc m)).agreed q ≡ true → IsAlone (now (suc m)) q →
      is_transfer_to q (suc m) (now (suc m)).transfer ≡ true
  started m was passive asked alone =
      let e = now (suc m) in
      let listed : ChannelSet =
      filter (asks e.active e.fresh e.agreed) (without (numbers_below M.rules.channels) e.active) in
      let few : q < M.rules.channels =
      active_within M L m q (subst (λ s. has s q ≡ true) (active-is M L (past m)) was) in
      let there : has listed q ≡ true =
      has-filter (asks e.active e.fresh e.agreed) (without (numbers_below M.rules.channels) e.active) q
      ∙ and_true (asks e.active e.fresh e.agreed q) (has (without (numbers_below M.rules.channels) e.active) q) asked
      (has-filter (λ q. not (has e.active q)) (numbers_below M.rules.channels) q
      ∙ and_true (not (has e.active q)) (has (numbers_below M.rules.channels) q)
      (ap (λ s. not (has s q)) (active-is M L (past (suc m))) ∙ ap not passive)
      (below_there M.rules.channels q few)) in
      let found : has (targets_of
      (transfer_after M.rules.channels M.rules.returning e.active e.fresh e.agreed (length (past (suc m)))
      (running_transfer (past (suc m))))) q ≡ true =
      targets_by q (kept_targets e.active e.agreed (length (past (suc m))) (running_transfer (past (suc m))))
      (new_targets M.rules.channels M.rules.returning e.active e.fresh e.agreed)
      (start_of (running_transfer (past (suc m)))) (length (past (suc m)))
      (λ r other. sym (ap (λ o. has (targets_of o) r) (transfer-is (suc m))) ∙ (alone r other).1)
      (λ only. first_taken M.rules.returning listed q (some_returning M mission) there only) in
      by_transfer m was (now (suc m)).transfer refl (ap (λ o. has (targets_of o) q) (transfer-is (suc m)) ∙ found)
    where
      by_start : (m : ℕ) → has (now m).active q ≡ true → (t : TransferValue) → has t.targets q ≡ true →
          (t.start ≡ length (past (suc m))) ⊎ IsKept (past (suc m)) t → t.start ≡ suc m
      by_start m was t there (inl new) = new ∙ length-cycles_before M L (suc m)
      by_start m was t there (inr kept) =
          let on = runs_on (now m).joined (now m).transfer kept.running kept.ran in
          differ (sym (subst (λ s. has s q ≡ true) (active-is M L (past m)) was)
          ∙ targets_passive M L m kept.running q (kept.within q there) on.1)

      by_transfer : (m : ℕ) → has (now m).active q ≡ true → (o : Option TransferValue) → (now (suc m)).transfer ≡ o →
          has (targets_of o) q ≡ true → is_transfer_to q (suc m) o ≡ true
      by_transfer m was None e h = absurd cc
      by_transfer m was (Some t) e h =
          and_true (has t.targets q) (t.start == suc m) h
          (eq-eqb t.start (suc m) (by_start m was t h (started_or_kept M L (past (suc m)) t e)))

  -- ---- joining since the start, which its requests name

  abbrev Joins : ℕ → ℕ → Type 0
  Joins s d = (i : ℕ) → s ≤ i → i < d → joins_from Request (now i) q ≡ true

  since : (s d : ℕ) → Joins s d → joins_since q s (past d) ≡ true
  since s zero joins = refl
  since s (suc d) joins =
      by (nat_lt (length (past d)) s) refl
      (λ late. joins d (omega (arith, late, length-cycles_before M L d)) (omega arith))
      (since s d (λ i low high. joins i low (omega (arith, high))))
    where
      by_place : (b : Bool) → joins_from Request (now d) q ≡ true → joins_since q s (past d) ≡ true →
          cond b (joins_from Sweep (now d) q) (joins_from Request (now d) q && joins_since q s (past d)) ≡ true
      by_place true here before = from_sweep (λ slot. is_joining (mode_in (now d) q slot)) here
      by_place false here before = and_true (joins_from Request (now d) q) (joins_since q s (past d)) here before

      by : (a : Bool) → nat_lt (length (past d)) s ≡ a →
          (s < suc (length (past d)) → joins_from Request (now d) q ≡ true) → joins_since q s (past d) ≡ true →
          cond a true (cond (length (past d) == s) (joins_from Sweep (now d) q)
          (joins_from Request (now d) q && joins_since q s (past d))) ≡ true
      by true e here before = refl
      by false e here before = by_place (length (past d) == s) (here (leb-false (suc (length (past d))) s e)) before

  abbrev Runs : ℕ → ℕ → Type 0
  Runs s d = (i : ℕ) → s ≤ i → i ≤ d → is_transfer_to q s (now i).transfer ≡ true

  -- its start is the latest of a transfer to it
  starts_at : (s i : ℕ) → Runs s (s + i) → starts_of q (past (suc (s + i))) ≡ s ∷ starts_of q (past s)
  starts_at s zero runs =
      let same : s + 0 ≡ s = omega arith in
      subst (λ d. starts_of q (past (suc d)) ≡ s ∷ starts_of q (past s)) (sym same) first
    where
      first : starts_of q (past (suc s)) ≡ s ∷ starts_of q (past s)
      first =
          let tr = transfer_of q s (now s).transfer (runs s (omega arith) (omega arith)) in
          let size : length (past s) ≡ s = length-cycles_before M L s in
          ap (λ b. cond b (length (past s) ∷ starts_of q (past s)) (starts_of q (past s)))
          (ap (starts_to q (length (past s))) tr.runs
          ∙ and_true (tr.transfer.start == length (past s)) (has tr.transfer.targets q)
          (eq-eqb tr.transfer.start (length (past s)) (tr.starts ∙ sym size)) tr.target)
          ∙ ap (λ k. k ∷ starts_of q (past s)) size
  starts_at s (suc i) runs =
      let next : s + suc i ≡ suc (s + i) = omega arith in
      subst (λ d. starts_of q (past (suc d)) ≡ s ∷ starts_of q (past s)) (sym next)
      (later ∙ starts_at s i (λ j low high. runs j low (omega (arith, high))))
    where
      later : starts_of q (past (suc (suc (s + i)))) ≡ starts_of q (past (suc (s + i)))
      later =
          let d : ℕ = suc (s + i) in
          let tr = transfer_of q s (now d).transfer (runs d (omega arith) (omega arith)) in
          let other : (tr.transfer.start == length (past d)) ≡ false =
          less_other tr.transfer.start (length (past d))
          (omega (arith, tr.starts, length-cycles_before M L (suc (s + i)))) in
          ap (λ b. cond b (length (past d) ∷ starts_of q (past d)) (starts_of q (past d)))
          (ap (starts_to q (length (past d))) tr.runs ∙ ap (λ b. b && has tr.transfer.targets q) other)

  names_start : (s d : ℕ) → s < d → Runs s (d - 1) → Joins s d → held_start q (past d) ≡ Some s
  names_start s d late runs joins =
      let place : suc (s + (d - suc s)) ≡ d = omega (arith, late) in
      let listed : starts_of q (past d) ≡ s ∷ starts_of q (past s) =
      subst (λ m. starts_of q (past m) ≡ s ∷ starts_of q (past s)) place
      (starts_at s (d - suc s) (λ j low high. runs j low (omega (arith, high, late)))) in
      ap (find (λ s. joins_since q s (past d))) listed
      ∙ ap (λ b. cond b (Some s) (find (λ s. joins_since q s (past d)) (starts_of q (past s)))) (since s d joins)

  -- ---- kept to the end

  kept_next : (s d : ℕ) → suc d < n → q < 7 → s ≤ d → Runs s d → Joins s (suc (suc d)) → IsAlone (now d) q →
      IsHeardByAll M (past d) (now d) q → has (dropped_in (suc d) (now (suc d))) q ≡ false
  kept_next s d soon low late runs joins alone heard =
      kept_by (now (suc d)).active (now (suc d)).agreed (suc d) q (now (suc d)).running
      (λ t is. stay t (sym (running-is (suc d)) ∙ is))
    where
      told : ℕ → Bool
      told code = enough_heard (now (suc d)).active (now (suc d)).agreed code q

      here : joins_from Request (now (suc d)) q ≡ true
      here = joins (suc d) (omega (arith, late)) (omega arith)

      two : s < d → enough_heard (now (suc d)).active (now (suc d)).agreed 2 q ≡ true
      two after =
          let tr = transfer_of q s (now d).transfer (runs d late (omega arith)) in
          told_next M L n mission early run q d 2 soon here alone
          (λ j there other. ap (nat_le 2)
          (heard_code M L n mission early run q d low heard j there other
          ∙ ap (λ (h : Option ℕ). Rattle.guards_model.specs.Decisions.request_code (now d).running q (Some h))
          (names_start s d after (λ j low high. runs j low (omega (arith, high)))
          (λ j low high. joins j low (omega (arith, high))))
          ∙ by_kept tr.transfer tr.runs tr.target tr.starts after (started_or_kept M L (past d) tr.transfer tr.runs)))
        where
          by_kept : (t : TransferValue) → (now d).transfer ≡ Some t → has t.targets q ≡ true → t.start ≡ s → s < d →
              (t.start ≡ length (past d)) ⊎ IsKept (past d) t →
              Rattle.guards_model.specs.Decisions.request_code (now d).running q (Some (Some s)) ≡ 2
          by_kept t is there start after (inl new) =
              absurd (omega (arith, start, after, new, length-cycles_before M L d))
          by_kept t is there start after (inr kept) =
              code_two (now d).running kept.running q s (running-is d ∙ kept.ran) (kept.within q there)
              (sym kept.same_start ∙ start)

      stay : (t : TransferValue) → running_transfer (past (suc d)) ≡ Some t →
          stays (now (suc d)).active (now (suc d)).agreed (suc d) t q ≡ true
      stay t is =
          let on = runs_on (now d).joined (now d).transfer t is in
          let tr = transfer_of q s (now d).transfer (runs d late (omega arith)) in
          let start : t.start ≡ s =
          ap (λ (u : TransferValue). u.start) (same_transfer t tr.transfer (sym on.1 ∙ tr.runs)) ∙ tr.starts in
          elim (cases_eq s d) [
            | inl same ↦ or_true (told 2) (t.start + 1 == suc d && told 1)
                (and_true (t.start + 1 == suc d) (told 1) (eq-eqb (t.start + 1) (suc d) (omega (arith, start, same)))
                (asked_next M L n mission early run q d soon low here alone heard))
            | inr other ↦ or_left (told 2) (t.start + 1 == suc d && told 1) (two (omega (arith, late, other)))
          ]

  module _ (s k to : ℕ) (starts : is_transfer_to q s (now s).transfer ≡ true) (low : q < 7)
      (is : transfer_length M (row_of M s) ≡ Some k) (soon : to < n)
      (joins : Joins s (suc to)) (heard : (d : ℕ) → s ≤ d → d < to → IsHeardByAll M (past d) (now d) q)
      (alone : (d : ℕ) → s ≤ d → d ≤ to → IsAlone (now d) q) where
    lasts : (d m : ℕ) → d < s + k → transfer_length M (row_of M s) ≡ Some m → d < s + m
    lasts d m short h = omega (arith, short, same_number k m (sym is ∙ h))

    runs_if : (d : ℕ) → s ≤ d → d < s + k → d < n → IsKeptTo M L q s d → is_transfer_to q s (now d).transfer ≡ true
    runs_if d late short few kept =
        (runs_for M L mission q s starts d late (omega (arith, few, early)) kept).1 (λ m h. lasts d m short h)

    keeps : (i : ℕ) → s + i ≤ to → s + i < s + k → IsKeptTo M L q s (s + i)
    keeps zero few short = λ d after up_to. absurd (omega (arith, after, up_to))
    keeps (suc i) few short =
        let before : IsKeptTo M L q s (s + i) = keeps i (omega (arith, few)) (omega (arith, short)) in
        let runs : Runs s (s + i) =
        λ j from under. runs_if j from (omega (arith, under, short)) (omega (arith, under, few, soon))
        (λ d after up_to. before d after (omega (arith, up_to, under))) in
        let kept : has (dropped_in (suc (s + i)) (now (suc (s + i)))) q ≡ false =
        kept_next s (s + i) (omega (arith, few, soon)) low (omega arith) runs
        (λ j from under. joins j from (omega (arith, under, few)))
        (alone (s + i) (omega arith) (omega (arith, few))) (heard (s + i) (omega arith) (omega (arith, few))) in
        λ d after up_to. by i before kept d after up_to (cases_lt (s + i) d)
      where
        by : (i : ℕ) → IsKeptTo M L q s (s + i) → has (dropped_in (suc (s + i)) (now (suc (s + i)))) q ≡ false →
            (d : ℕ) → s < d → d ≤ s + suc i → (s + i < d) ⊎ (d ≤ s + i) → has (dropped_in d (now d)) q ≡ false
        by i before kept d after up_to (inl above) = let same : suc (s + i) ≡ d = omega (arith, above, up_to) in
            subst (λ m. has (dropped_in m (now m)) q ≡ false) same kept
        by i before kept d after up_to (inr under) = before d after under

  pub returns : (c k : ℕ) → suc (c + k) < n → has (now c).active q ≡ true → has (now (suc c)).active q ≡ true →
      3 < length (now (suc c)).active → transfer_length M (row_of M (suc (suc c))) ≡ Some k →
      ComesBack M L q c (suc (c + k)) → IsReturned M L q c k
  returns c k soon was there many is back =
      let s : ℕ = suc (suc c) in
      let to : ℕ = suc (c + k) in
      let some : 1 ≤ k = (length_first M s k (sym (length_of_row M s) ∙ is)).from in
      let low : q < 7 = low_now M L mission c q was in
      let asked = asks_next M L n mission early run q c (omega (arith, soon)) low
      (back.joins (suc c) (omega arith) (omega arith)) (back.alone c (omega arith) (omega arith))
      (back.heard c (omega arith) (omega arith)) (own_unjoined M L n mission early run q c was) in
      let gone = removed_now (suc c) there asked (back.alone (suc c) (omega arith) (omega arith)) many in
      let again = asks_next M L n mission early run q (suc c) (omega (arith, soon, some)) low
      (back.joins s (omega arith) (omega (arith, some))) (back.alone (suc c) (omega arith) (omega arith))
      (back.heard (suc c) (omega arith) (omega (arith, some)))
      (own_unjoined M L n mission early run q (suc c) there) in
      let starts = started (suc c) there (passive_next (suc c) low there gone) again
      (back.alone s (omega arith) (omega (arith, some))) in
      let joins : Joins s (suc to) = λ i from under. back.joins i (omega (arith, from)) (omega (arith, under)) in
      let place : s + (k - 1) ≡ to = omega (arith, some) in
      let kept : IsKeptTo M L q s to =
      subst (IsKeptTo M L q s) place
      (keeps s k to starts low is soon joins (λ d from under. back.heard d (omega (arith, from)) under)
      (λ d from under. back.alone d (omega (arith, from)) under) (k - 1) (omega (arith, place))
      (omega (arith, some))) in
      let joined : has (now to).joined q ≡ true =
      ends_at M L mission q s starts to k (omega (arith, some)) (omega (arith, soon, early)) kept is
      (omega arith) in
      let runs : is_transfer_to q s (now to).transfer ≡ true =
      (runs_for M L mission q s starts to (omega (arith, some)) (omega (arith, soon, early)) kept).1
      (λ m h. omega (arith, same_number k m (sym is ∙ h))) in
      let tr = transfer_of q s (now to).transfer runs in
      record {
        removed = gone;
        starts = starts;
        joined = joined;
        whole = and_true (has (now to).joined q) (joins_since q (start_of (now to).transfer) (past (suc to))) joined
            (ap (λ o. joins_since q (start_of o) (past (suc to))) tr.runs
            ∙ ap (λ start. joins_since q start (past (suc to))) tr.starts ∙ since s (suc to) joins);
      }
