-- A channel that is judged in each of some cycles is removed in time, whatever the log holds.
use Rattle.std.proofs.Common.{◌≡◌, ℕ, zero, suc, ◌+◌, ◌-◌, ◌*◌, ◌<◌, ◌≤◌, ◌==◌, Bool, true, false, cond, not, ◌&&◌, ◌||◌, List, [], ◌∷◌, length, refl, sym, ap, subst, ◌∙◌, ◌⊎◌, inl, inr, arith}
use Rattle.std.specs.Prelude.{take, min, nat_le, nat_lt, count_by}
use Rattle.std.specs.List.{list_all}
use Rattle.std.proofs.lemmas.Bool.{leb-true, le-leb}
use Rattle.guards_model.specs.Channels.{Channel, has, place_or, by_channel, without}
use Rattle.guards_model.specs.Missions.{MissionValue, IsMission, within, is_law}
use Rattle.guards_model.specs.Frames.{count_cap, is_set, ascends, law_in_range, names_law, counts_in_range}
use Rattle.guards_model.specs.Network.{Log}
use Rattle.guards_model.specs.Diagnosis.{asks}
use Rattle.guards_runs.specs.Cycles.{Past, Cycle, active_set, base_counts, cycles_before, next_cycle}
use Rattle.guards_runs.specs.Due.{control_after}
use Rattle.guards_runs.specs.Promises.{EachCycle}
use Rattle.guards_model.proofs.Tables.{at-by_channel, has-filter, has-channels_where}
use Rattle.guards_model.proofs.BoolTests.{differ, both, and_true, or_left}
use Rattle.guards_model.proofs.Counting.{not_false, count-cons, one_if_true}
use Rattle.guards_model.proofs.AscendingLists.{set-filter, set_parts, member_passes}
use Rattle.guards_laws.proofs.CycleParts.{active-is}
use Rattle.guards_laws.proofs.StayActive.{joined_passive}
use Rattle.guards_laws.proofs.ControlRange.{control_good}
use Rattle.recovery_laws.specs.Diagnosed.{is_judged, in_a_row, count_before_row, raised_by, candidates_in, IsRaised, IsDueToGo, IsRemovedInTime, RaisesJudged, RemovesJudged}
use Rattle.recovery_laws.proofs.Judgement.{stepped, before-are, removed-is}
use Rattle.recovery_laws.proofs.LeftAlone.{each_of}
use Rattle.guards_laws.proofs.WithinChannels.{active_is_set}
use Rattle.recovery_laws.proofs.JudgedCounts.{low_now}

-- ---- what is taken of an ascending list

taken_first : (k : ℕ) (x q : ℕ) (xs : List ℕ) (b : Bool) → (x == q) ≡ b → list_all (λ y. nat_lt x y) xs ≡ true →
    (b || has xs q) ≡ true → count_by (λ p. nat_lt p q) (x ∷ xs) < suc k →
    (has xs q ≡ true → count_by (λ p. nat_lt p q) xs < k → has (take k xs) q ≡ true) → (b || has (take k xs) q) ≡ true
taken_first k x q xs true e above there few more = refl
taken_first k x q xs false e above there few more =
    more there (omega (
      arith,
      few,
      count-cons (λ p. nat_lt p q) x xs,
      one_if_true (nat_lt x q) (member_passes (λ y. nat_lt x y) xs q above there),
    ))

-- what has fewer than k below it is among the first k
taken_if : (k : ℕ) (xs : List ℕ) (q : ℕ) → ascends xs ≡ true → has xs q ≡ true → count_by (λ p. nat_lt p q) xs < k →
    has (take k xs) q ≡ true
taken_if zero xs q up there few = absurd (omega arith)
taken_if (suc k) [] q up there few = absurd cc
taken_if (suc k) (x ∷ xs) q up there few =
    let parts = both (list_all (λ y. nat_lt x y) xs) (ascends xs) up in
    taken_first k x q xs (x == q) refl parts.0 there few (taken_if k xs q parts.1)

-- all of a list is taken, or as much as may be
all_or_full : (k : ℕ) (xs : List ℕ) → (take k xs ≡ xs) ⊎ (length (take k xs) ≡ k)
all_or_full zero xs = inr refl
all_or_full (suc k) [] = inl refl
all_or_full (suc k) (x ∷ xs) =
    elim (all_or_full k xs) as (λ v. (take (suc k) (x ∷ xs) ≡ x ∷ xs) ⊎ (length (take (suc k) (x ∷ xs)) ≡ suc k))
    [ inl all ↦ inl (ap (λ ys. x ∷ ys) all) | inr full ↦ inr (ap suc full) ]

count_at : (counts : List ℕ) (q : ℕ) → list_all (λ n. nat_le n count_cap) counts ≡ true →
    nat_le (place_or counts q 0) count_cap ≡ true
count_at [] q h = refl
count_at (x ∷ counts) zero h = (both (nat_le x count_cap) (list_all (λ n. nat_le n count_cap) counts) h).0
count_at (x ∷ counts) (suc q) h =
    count_at counts q (both (nat_le x count_cap) (list_all (λ n. nat_le n count_cap) counts) h).1

zeros : list_all (λ n. nat_le n count_cap) (by_channel (λ q. 0)) ≡ true
unfolding by_channel
zeros = refl

raised_again : (a b k : ℕ) → b ≡ raised_by k a → min (b + 65536) count_cap ≡ raised_by (suc k) a
raised_again a b k h = omega (arith, h)

module _ (M : MissionValue) (L : Log) (mission : IsMission M) (n : ℕ) (test : Cycle → Channel → Bool)
    (sound : (m : ℕ) → m < n → (q : Channel) → test (next_cycle M L (cycles_before M L m)) q ≡ true →
    is_judged (next_cycle M L (cycles_before M L m)) q ≡ true) where
  abbrev past : ℕ → Past
  past m = cycles_before M L m

  abbrev now : ℕ → Cycle
  now m = next_cycle M L (cycles_before M L m)

  abbrev row : ℕ → Channel → ℕ
  row m q = in_a_row test q (cycles_before M L m)

  abbrev base : ℕ → Channel → ℕ
  base m q = count_before_row test q M (cycles_before M L m)

  low_at : (m : ℕ) → m < n → (q : Channel) → has (now m).active q ≡ true → q < 7
  low_at m soon q there = low_now M L mission m q there

  judged_parts : (m : ℕ) → m < n → (q : Channel) → test (now m) q ≡ true →
      (has (now m).active q ≡ true) × (has (now m).judged q ≡ true)
  judged_parts m soon q h = both (has (now m).active q) (has (now m).judged q) (sound m soon q h)

  -- no count is above the cap
  capped : (m : ℕ) (q : Channel) → place_or (base_counts M (past m)) q 0 ≤ count_cap
  capped zero q = at_zero q
    where
      none : (q : Channel) → nat_le (place_or (by_channel (λ q. 0)) q 0) count_cap ≡ true
      none q = count_at (by_channel (λ q. 0)) q zeros

      at_zero : (q : Channel) → place_or (by_channel (λ q. 0)) q 0 ≤ count_cap
      at_zero q = leb-true (place_or (by_channel (λ q. 0)) q 0) count_cap (none q)
  capped (suc m) q =
      let w = control_after M (past (suc m)) in
      let a = both (law_in_range (names_law M.rules.version) w.law)
      (is_set w.active && (is_set w.fresh && counts_in_range w.counts)) (control_good M L mission m) in
      let b = both (is_set w.active) (is_set w.fresh && counts_in_range w.counts) a.1 in
      let c = both (is_set w.fresh) (counts_in_range w.counts) b.1 in
      leb-true (place_or w.counts q 0) count_cap
      (count_at w.counts q (both (length w.counts == 7) (list_all (λ n. nat_le n count_cap) w.counts) c.1).1)

  -- the count that a channel that stays active begins the next cycle with
  pub carried : (m : ℕ) → m < n → (q : Channel) → has (now (suc m)).active q ≡ true → has (now m).active q ≡ true →
      q < 7 → place_or (base_counts M (past (suc m))) q 0 ≡ place_or (now m).counts q 0
  carried m soon q there before low =
      at-by_channel (λ q. cond (has (active_set M (past (suc m))) q && not (has (now m).joined q))
      (place_or (now m).counts q 0) 0) q 0 low
      ∙ ap (λ b. cond b (place_or (now m).counts q 0) 0)
      (and_true (has (active_set M (past (suc m))) q) (not (has (now m).joined q))
      (subst (λ s. has s q ≡ true) (active-is M L (past (suc m))) there)
      (not_false (has (now m).joined q) (not_joined (has (now m).joined q) refl)))
    where
      not_joined : (b : Bool) → has (now m).joined q ≡ b → b ≡ false
      not_joined true e = differ (sym before ∙ joined_passive M L m q e)
      not_joined false e = refl

  raised_now : (m : ℕ) → m < n → (q : Channel) → test (now m) q ≡ true →
      place_or (now m).counts_before q 0 ≡ raised_by (row m q) (base m q) →
      place_or (now m).counts q 0 ≡ raised_by (in_a_row test q (now m ∷ past m)) (base m q)
  raised_now m soon q silent before =
      let parts = judged_parts m soon q silent in
      stepped M L (past m) q true (low_at m soon q parts.0) parts.0 parts.1
      ∙ raised_again (base m q) (place_or (now m).counts_before q 0) (row m q) before
      ∙ ap (λ b. raised_by (cond b (suc (row m q)) 0) (base m q)) (sym silent)

  not_raised : (a : ℕ) → a ≤ count_cap → a ≡ raised_by 0 a
  not_raised a small = omega (arith, small)

  before_raised : (m : ℕ) → m < n → (q : Channel) → has (now m).active q ≡ true →
      place_or (now m).counts_before q 0 ≡ raised_by (row m q) (base m q)
  before_raised zero soon q there =
      ap (λ t. place_or t q 0) (before-are M L (past 0)) ∙ at-by_channel (λ q. 0) q 0 (low_at 0 soon q there)
      ∙ not_raised 0 (omega arith)
  before_raised (suc m) soon q there =
      let m_soon : m < n = omega (arith, soon) in
      ap (λ t. place_or t q 0) (before-are M L (past (suc m)))
      ∙ by_silence (test (now m) q) refl (λ silent. before_raised m m_soon q (judged_parts m m_soon q silent).0)
    where
      by_silence : (b : Bool) → test (now m) q ≡ b →
          (test (now m) q ≡ true → place_or (now m).counts_before q 0 ≡ raised_by (row m q) (base m q)) →
          place_or (base_counts M (past (suc m))) q 0
          ≡ raised_by (cond b (suc (row m q)) 0) (cond b (base m q) (place_or (base_counts M (past (suc m))) q 0))
      by_silence true e more =
          carried m (omega (arith, soon)) q there (judged_parts m (omega (arith, soon)) q e).0
          (low_at (suc m) soon q there)
          ∙ raised_now m (omega (arith, soon)) q e (more e)
          ∙ ap (λ b. raised_by (cond b (suc (row m q)) 0) (base m q)) e
      by_silence false e more = not_raised (place_or (base_counts M (past (suc m))) q 0) (capped (suc m) q)

  pub raised_in : (m : ℕ) → m < n → (q : Channel) → test (now m) q ≡ true → IsRaised M test (past m) (now m) q
  raised_in m soon q passes = raised_now m soon q passes (before_raised m soon q (judged_parts m soon q passes).0)

  -- ---- removal

  low_threshold : M.rules.threshold ≤ 6553600
  low_threshold =
      let a = both ((within 3 7 M.rules.channels && within 1 256 M.rules.blocks)
      && (within 0 65536 M.rules.keep && within 65536 6553600 M.rules.threshold))
      ((within 1 64 M.rules.sweep && within 0 64 M.rules.last)
      && ((within 1 2 M.rules.version && is_law M.rules.version M.rules.law)
      && (within 0 6553600 M.rules.decrement && within 1 2 M.rules.returning))) mission.rules in
      let b = both (within 3 7 M.rules.channels && within 1 256 M.rules.blocks)
      (within 0 65536 M.rules.keep && within 65536 6553600 M.rules.threshold) a.0 in
      let c = both (within 0 65536 M.rules.keep) (within 65536 6553600 M.rules.threshold) b.1 in
      leb-true M.rules.threshold 6553600
      (both (nat_le 65536 M.rules.threshold) (nat_le M.rules.threshold 6553600) c.1).1

  reached : (threshold count k a : ℕ) → threshold ≤ 6553600 → threshold ≤ a + 65536 * k → count ≡ raised_by k a →
      threshold ≤ count
  reached threshold count k a few enough is = omega (arith, few, enough, is)

  pub removes : (m : ℕ) → m < n → (q : Channel) → test (now m) q ≡ true → IsDueToGo M test (past m) (now m) q →
      IsRemovedInTime M (past m) (now m) q
  removes m soon q silent enough =
      let e = now m in
      let there = (judged_parts m soon q silent).0 in
      let low : q < 7 = low_at m soon q there in
      let wanted : Channel → Bool =
      λ q. nat_le M.rules.threshold (place_or e.counts q 0) || asks e.active e.fresh e.agreed q in
      let places : ℕ = length e.active - 3 in
      let much : M.rules.threshold ≤ place_or e.counts q 0 =
      reached M.rules.threshold (place_or e.counts q 0) (in_a_row test q (e ∷ past m)) (base m q) low_threshold enough
      (raised_in m soon q silent) in
      let candidate : has (candidates_in M e) q ≡ true =
      has-filter wanted e.active q
      ∙ and_true (wanted q) (has e.active q)
      (or_left (nat_le M.rules.threshold (place_or e.counts q 0)) (asks e.active e.fresh e.agreed q)
      (le-leb M.rules.threshold (place_or e.counts q 0) much)) there in
      let set : ascends (candidates_in M e) ≡ true =
      (set_parts (candidates_in M e)
      (set-filter wanted e.active
      (subst (λ s. is_set s ≡ true) (sym (active-is M L (past m))) (active_is_set M (past m) mission)))).1 in
      record {
        candidate = candidate;
        removed = λ few. ap (λ s. has s q) (removed-is M L (past m))
            ∙ taken_if places (candidates_in M e) q set candidate few;
        or_three = elim (all_or_full places (candidates_in M e))
            as (λ v. (has e.removed q ≡ true) ⊎ (length e.removed ≡ places)) [
              | inl all ↦ inl (ap (λ s. has s q) (removed-is M L (past m) ∙ all) ∙ candidate)
              | inr full ↦ inr (ap length (removed-is M L (past m)) ∙ full)
            ];
        gone = λ taken. has-channels_where (λ q. has (without e.active e.removed) q || has e.joined q) q low
            ∙ ap (λ b. b || has e.joined q)
            (has-filter (λ q. not (has e.removed q)) e.active q ∙ ap (λ b. not b && has e.active q) taken)
            ∙ not_joined m q there (has e.joined q) refl;
      }
    where
      not_joined : (m : ℕ) (q : Channel) → has (now m).active q ≡ true → (b : Bool) → has (now m).joined q ≡ b →
          b ≡ false
      not_joined m q there true e = differ (sym there ∙ joined_passive M L m q e)
      not_joined m q there false e = refl

-- judged channels themselves
pub raises_judged : (M : MissionValue) (L : Log) → IsMission M → (n : ℕ) →
    EachCycle (RaisesJudged M) (cycles_before M L n)
raises_judged M L mission n = each_of M L (RaisesJudged M) n (raised_in M L mission n is_judged (λ m soon q h. h))

pub removes_judged : (M : MissionValue) (L : Log) → IsMission M → (n : ℕ) →
    EachCycle (RemovesJudged M) (cycles_before M L n)
removes_judged M L mission n = each_of M L (RemovesJudged M) n (removes M L mission n is_judged (λ m soon q h. h))
