-- How seldom a channel is to be judged so that its count stays below the threshold.
use Rattle.std.proofs.Common.{◌≡◌, ℕ, zero, suc, ◌+◌, ◌-◌, ◌*◌, ◌/◌, ◌<◌, ◌≤◌, ◌⊎◌, inl, inr, Bool, true, false, cond, not, ◌||◌, List, [], ◌∷◌, Option, Some, None, refl, sym, ap, subst, ◌∙◌, arith}
use Rattle.std.specs.Prelude.{IsTrue, nat_le, find}
use Rattle.std.specs.List.{range_with_len}
use Rattle.std.proofs.lemmas.Bool.{leb-true, leb-false, le-leb, lt-leb, cases_lt}
use Rattle.std.proofs.Math.Nat.{mul-le-mul_left}
use Rattle.guards_model.specs.declared.Law.{Law}
use Rattle.guards_model.specs.declared.Law.TheVariants.{Multiply, Subtract}
use Rattle.guards_model.specs.Missions.{MissionValue, IsMission}
use Rattle.guards_model.specs.Network.{Log}
use Rattle.guards_model.specs.Channels.{place_or}
use Rattle.guards_model.specs.Diagnosis.{decayed, asks}
use Rattle.guards_runs.specs.Cycles.{cycles_before, next_cycle}
use Rattle.guards_runs.specs.Promises.{EachCycle}
use Rattle.guards_model.proofs.BoolTests.{differ, both, and_true, clear_or}
use Rattle.guards_laws.proofs.Planned.{ranges}
use Rattle.recovery_laws.specs.CountHistories.{judgements, decayed_for, next_peak, is_steady, peak_from, peak_of, is_clear_for, is_sparse}
use Rattle.recovery_laws.specs.LeastPeriods.{StaysBelow, ReachesThreshold, is_below, stays_below, most_period, least_period, decays, KeepsFromLeastPeriod}
use Rattle.recovery_laws.proofs.Judgement.{not_removed}
use Rattle.recovery_laws.proofs.LeftAlone.{each_of}
use Rattle.recovery_laws.proofs.JudgedCounts.{counted_now}
use Rattle.recovery_laws.proofs.HighestCounts.{peak_found, first_reached}
use Rattle.recovery_laws.proofs.Decided.{decided_here}

same_number : (a b : ℕ) → Some a ≡ Some b → a ≡ b
same_number a b h = cc

none_some : {k : ℕ} → None ≡ Some k → ⊥
none_some h = cc

-- ---- seldom, and more seldom

fewer_clear : (k more : ℕ) (judged : List Bool) → k ≤ more → is_clear_for more judged ≡ true →
    is_clear_for k judged ≡ true
fewer_clear zero more judged few h = refl
fewer_clear (suc k) zero judged few h = absurd (omega (arith, few))
fewer_clear (suc k) (suc more) [] few h = refl
fewer_clear (suc k) (suc more) (errant ∷ earlier) few h =
    let parts = both (not errant) (is_clear_for more earlier) h in
    and_true (not errant) (is_clear_for k earlier) parts.0 (fewer_clear k more earlier (omega (arith, few)) parts.1)

pub sparser : (period more : ℕ) (judged : List Bool) → period ≤ more → is_sparse more judged ≡ true →
    is_sparse period judged ≡ true
sparser period more [] few h = refl
sparser period more (errant ∷ earlier) few h =
    let parts = both (not errant || is_clear_for (more - 1) earlier) (is_sparse more earlier) h in
    and_true (not errant || is_clear_for (period - 1) earlier) (is_sparse period earlier)
    (here errant parts.0) (sparser period more earlier few parts.1)
  where
    here : (e : Bool) → (not e || is_clear_for (more - 1) earlier) ≡ true →
        (not e || is_clear_for (period - 1) earlier) ≡ true
    here true k = fewer_clear (period - 1) (more - 1) earlier (omega (arith, few)) k
    here false k = refl

pub stays_sparser : (M : MissionValue) (period more : ℕ) → period ≤ more → StaysBelow M period → StaysBelow M more
stays_sparser M period more few stays judged sparse = stays judged (sparser period more judged few sparse)

pub reaches_denser : (M : MissionValue) (period more : ℕ) → period ≤ more → ReachesThreshold M more →
    ReachesThreshold M period
reaches_denser M period more few (judged, sparse, high) = (judged, sparser period more judged few sparse, high)

pub not_both : (M : MissionValue) (period : ℕ) → StaysBelow M period → ReachesThreshold M period → ⊥
not_both M period stays (judged, sparse, high) = omega (arith, stays judged sparse, high)

-- ---- the decision

module _ (M : MissionValue) (mission : IsMission M) where
  abbrev peak : ℕ → Option ℕ
  peak period = peak_of M.rules.law M.rules.keep M.rules.decrement M.rules.threshold period

  stays_by : (period : ℕ) (o : Option ℕ) → peak period ≡ o → is_below M.rules.threshold o ≡ true → StaysBelow M period
  stays_by period None e h = absurd cc
  stays_by period (Some p) e h =
      λ judged sparse. omega (
        arith,
        (peak_found M.rules.law M.rules.keep M.rules.decrement M.rules.threshold period p (ranges M mission).keep
            e).highest judged sparse,
        leb-true (suc p) M.rules.threshold h,
      )

  pub stays_if : (period : ℕ) → stays_below M period ≡ true → StaysBelow M period
  unfolding stays_below
  stays_if period h = stays_by period (peak period) refl h

  pub reaches_if : (period : ℕ) → stays_below M period ≡ false → ReachesThreshold M period
  unfolding stays_below
  reaches_if period h =
      elim (decided_here M period mission) [
        | inl (p, is, (judged, sparse, at)) ↦ (
          judged,
          sparse,
          omega (
            arith,
            at,
            leb-false (suc p) M.rules.threshold (sym (ap (is_below M.rules.threshold) is) ∙ h),
          ),
        )
        | inr found ↦ found
      ]

  pub decided_stays : (period : ℕ) → StaysBelow M period → stays_below M period ≡ true
  decided_stays period stays = by (stays_below M period) refl
    where
      by : (b : Bool) → stays_below M period ≡ b → b ≡ true
      by true e = refl
      by false e = absurd (not_both M period stays (reaches_if period e))

  pub decided_reaches : (period : ℕ) → ReachesThreshold M period → stays_below M period ≡ false
  decided_reaches period reaches = by (stays_below M period) refl
    where
      by : (b : Bool) → stays_below M period ≡ b → b ≡ false
      by true e = absurd (not_both M period (stays_if period e) reaches)
      by false e = refl

-- ---- what decays

times : (a b k : ℕ) → a ≤ b → k * a ≤ k * b
times a b k h = mul-le-mul_left k h

-- a count that decays falls by a unit at least
falls : (law : Law) (keep decrement count : ℕ) → decays law keep decrement ≡ true →
    decayed law keep decrement count ≤ count - 1
falls Multiply keep decrement zero h = omega arith
falls Multiply keep decrement (suc count) h =
    let small : keep ≤ 65535 = omega (arith, leb-true (suc keep) 65536 h) in
    let most : suc count * keep ≤ suc count * 65535 = times keep 65535 (suc count) small in
    omega (arith, most)
falls Subtract keep decrement count h = omega (arith, leb-true 1 decrement h)

falls_for : (law : Law) (keep decrement k count : ℕ) → decays law keep decrement ≡ true →
    decayed_for law keep decrement k count ≤ count - k
falls_for law keep decrement zero count h = omega arith
falls_for law keep decrement (suc k) count h =
    omega (
      arith,
      falls law keep decrement (decayed_for law keep decrement k count) h,
      falls_for law keep decrement k count h,
    )

-- a count that does not decay stays
stands : (law : Law) (keep decrement count : ℕ) → keep ≤ 65536 → decays law keep decrement ≡ false →
    decayed law keep decrement count ≡ count
stands Multiply keep decrement count small h =
    let all : keep ≡ 65536 = omega (arith, small, leb-false (suc keep) 65536 h) in
    ap (λ k. (count * k) / 65536) all ∙ whole count
  where
    whole : (n : ℕ) → (n * 65536) / 65536 ≡ n
    whole n = omega arith
stands Subtract keep decrement count small h = omega (arith, leb-false 1 decrement h)

stands_for : (law : Law) (keep decrement k count : ℕ) → keep ≤ 65536 → decays law keep decrement ≡ false →
    decayed_for law keep decrement k count ≡ count
stands_for law keep decrement zero count small h = refl
stands_for law keep decrement (suc k) count small h =
    ap (decayed law keep decrement) (stands_for law keep decrement k count small h)
    ∙ stands law keep decrement count small h

module _ (M : MissionValue) (mission : IsMission M) where
  -- where nothing decays there is no peak
  no_peak : (fuel period count : ℕ) → decays M.rules.law M.rules.keep M.rules.decrement ≡ false →
      peak_from M.rules.law M.rules.keep M.rules.decrement fuel period count ≡ None
  no_peak zero period count h = refl
  no_peak (suc fuel) period count h =
      let unsteady : is_steady M.rules.law M.rules.keep M.rules.decrement period count ≡ false =
      lt-leb (next_peak M.rules.law M.rules.keep M.rules.decrement period count) count
      (omega (
        arith,
        stands_for M.rules.law M.rules.keep M.rules.decrement (period - 1) count (ranges M mission).keep
            h,
      )) in
      ap (λ b. cond b (Some count)
      (peak_from M.rules.law M.rules.keep M.rules.decrement fuel period
      (next_peak M.rules.law M.rules.keep M.rules.decrement period count))) unsteady
      ∙ no_peak fuel period (next_peak M.rules.law M.rules.keep M.rules.decrement period count) h

  undecayed : (period : ℕ) → decays M.rules.law M.rules.keep M.rules.decrement ≡ false → stays_below M period ≡ false
  unfolding stays_below
  undecayed period h = ap (is_below M.rules.threshold) (no_peak M.rules.threshold period 65536 h)

  pub undecayed_reaches : (period : ℕ) → decays M.rules.law M.rules.keep M.rules.decrement ≡ false →
      ReachesThreshold M period
  undecayed_reaches period h = reaches_if M mission period (undecayed period h)

  -- one judgement reaches a threshold of one
  pub one_reaches : (period : ℕ) → M.rules.threshold ≤ 65536 → ReachesThreshold M period
  one_reaches period low =
      let (judged, sparse, is) = first_reached M.rules.law M.rules.keep M.rules.decrement period in
      (judged, sparse, omega (arith, is, low))

  -- with enough time a judgement decays to nothing
  pub long_stays : 65536 < M.rules.threshold → decays M.rules.law M.rules.keep M.rules.decrement ≡ true →
      stays_below M most_period ≡ true
  unfolding stays_below
  long_stays high h = by M.rules.threshold refl
    where
      steady : is_steady M.rules.law M.rules.keep M.rules.decrement most_period 65536 ≡ true
      steady =
          le-leb (next_peak M.rules.law M.rules.keep M.rules.decrement most_period 65536) 65536
          (omega (arith, falls_for M.rules.law M.rules.keep M.rules.decrement 65536 65536 h))

      by : (n : ℕ) → M.rules.threshold ≡ n →
          is_below M.rules.threshold (peak_of M.rules.law M.rules.keep M.rules.decrement n most_period) ≡ true
      by zero e = absurd (omega (arith, high, e))
      by (suc n) e =
          ap (λ b. is_below M.rules.threshold
          (cond b (Some 65536) (peak_from M.rules.law M.rules.keep M.rules.decrement n most_period
          (next_peak M.rules.law M.rules.keep M.rules.decrement most_period 65536)))) steady
          ∙ le-leb 65537 M.rules.threshold high

-- ---- the least number that passes

record IsLeast (f : ℕ → Bool) (start k : ℕ) : Type 0 where
  from : start ≤ k
  passes : f k ≡ true
  none : (j : ℕ) → start ≤ j → j < k → f j ≡ false

module _ (f : ℕ → Bool) where
  least_by : (start count k : ℕ) (b : Bool) → f start ≡ b →
      cond b (Some start) (find f (range_with_len (start + 1) count)) ≡ Some k →
      (find f (range_with_len (start + 1) count) ≡ Some k → IsLeast f (start + 1) k) → IsLeast f start k
  least_by start count k true e h more =
      let same : start ≡ k = same_number start k h in
      record {
        from = omega (arith, same);
        passes = ap f (sym same) ∙ e;
        none = λ j low high. absurd (omega (arith, low, high, same));
      }
  least_by start count k false e h more =
      let r = more h in
      record {
        from = omega (arith, r.from);
        passes = r.passes;
        none = λ j low high. here j high r.none low (cases_lt start j);
      }
    where
      here : (j : ℕ) → j < k → ((j : ℕ) → start + 1 ≤ j → j < k → f j ≡ false) → start ≤ j → (start < j) ⊎ (j ≤ start) →
          f j ≡ false
      here j high none low (inl above) = none j (omega (arith, above)) high
      here j high none low (inr under) = let same : j ≡ start = omega (arith, under, low) in ap f same ∙ e

  found_least : (start count k : ℕ) → find f (range_with_len start count) ≡ Some k → IsLeast f start k
  found_least start zero k h = absurd (none_some h)
  found_least start (suc count) k h = least_by start count k (f start) refl h (found_least (start + 1) count k)

  none_by : (start count j : ℕ) (b : Bool) → f start ≡ b →
      cond b (Some start) (find f (range_with_len (start + 1) count)) ≡ None →
      start ≤ j → (find f (range_with_len (start + 1) count) ≡ None → start + 1 ≤ j → f j ≡ false) → f j ≡ false
  none_by start count j true e h low more = absurd cc
  none_by start count j false e h low more = by (cases_lt start j)
    where
      by : (start < j) ⊎ (j ≤ start) → f j ≡ false
      by (inl above) = more h (omega (arith, above))
      by (inr under) = let same : j ≡ start = omega (arith, under, low) in ap f same ∙ e

  none_found : (start count : ℕ) → find f (range_with_len start count) ≡ None → (j : ℕ) → start ≤ j →
      j < start + count → f j ≡ false
  none_found start zero h j low high = absurd (omega (arith, low, high))
  none_found start (suc count) h j low high =
      none_by start count j (f start) refl h low
      (λ k above. none_found (start + 1) count k j above (omega (arith, high)))

-- ---- the least period

module _ (M : MissionValue) (mission : IsMission M) where
  first_of_periods : (least : ℕ) → least_period M ≡ Some least → IsLeast (stays_below M) 1 least
  unfolding least_period
  first_of_periods least h = found_least (stays_below M) 1 most_period least h

  pub stays_from : (least period : ℕ) → least_period M ≡ Some least → least ≤ period → StaysBelow M period
  stays_from least period h few =
      stays_sparser M least period few (stays_if M mission least (first_of_periods least h).passes)

  pub reaches_under : (least period : ℕ) → least_period M ≡ Some least → 1 ≤ period → period < least →
      ReachesThreshold M period
  reaches_under least period h some under =
      reaches_if M mission period ((first_of_periods least h).none period some under)

  long_fails : least_period M ≡ None → stays_below M most_period ≡ false
  unfolding least_period
  long_fails h = none_found (stays_below M) 1 most_period h most_period (omega arith) (omega arith)

  pub none_reaches : least_period M ≡ None → (period : ℕ) → ReachesThreshold M period
  none_reaches h period =
      elim (cases_lt 65536 M.rules.threshold) [
        | inl high ↦ by_decay high (decays M.rules.law M.rules.keep M.rules.decrement) refl
        | inr low ↦ one_reaches M mission period low
      ]
    where
      by_decay : 65536 < M.rules.threshold → (b : Bool) → decays M.rules.law M.rules.keep M.rules.decrement ≡ b →
          ReachesThreshold M period
      by_decay high true e = differ (sym (long_stays M mission high e) ∙ long_fails h)
      by_decay high false e = undecayed_reaches M mission period e

  pub needs_decay : (least : ℕ) → least_period M ≡ Some least →
      (65536 < M.rules.threshold) × IsTrue (decays M.rules.law M.rules.keep M.rules.decrement)
  needs_decay least h =
      let stays = stays_if M mission least (first_of_periods least h).passes in (
        elim (cases_lt 65536 M.rules.threshold) [
          | inl high ↦ high
          | inr low ↦ absurd (not_both M least stays (one_reaches M mission least low))
        ],
        by stays (decays M.rules.law M.rules.keep M.rules.decrement) refl,
      )
    where
      by : StaysBelow M least → (b : Bool) → decays M.rules.law M.rules.keep M.rules.decrement ≡ b → b ≡ true
      by stays true e = refl
      by stays false e = absurd (not_both M least stays (undecayed_reaches M mission least e))

  is_there : (o : Option ℕ) → least_period M ≡ o → StaysBelow M most_period →
      (least : ℕ) × (least_period M ≡ Some least)
  is_there None e stays = absurd (not_both M most_period stays (none_reaches e most_period))
  is_there (Some least) e stays = (least, e)

  pub least_there : 65536 < M.rules.threshold → decays M.rules.law M.rules.keep M.rules.decrement ≡ true →
      (least : ℕ) × (least_period M ≡ Some least)
  least_there high h = is_there (least_period M) refl (stays_if M mission most_period (long_stays M mission high h))

  pub none_if_undecayed : decays M.rules.law M.rules.keep M.rules.decrement ≡ false → least_period M ≡ None
  none_if_undecayed h = by (least_period M) refl
    where
      by : (o : Option ℕ) → least_period M ≡ o → o ≡ None
      by None e = refl
      by (Some least) e = differ (sym (needs_decay least e).1 ∙ h)

  -- ---- what rows compute

  abbrev peaks_from : ℕ → ℕ → ℕ → Option ℕ
  peaks_from few period count = peak_from M.rules.law M.rules.keep M.rules.decrement few period count

  abbrev after : ℕ → ℕ → ℕ
  after period count = next_peak M.rules.law M.rules.keep M.rules.decrement period count

  longer_by : (fewer more period count top : ℕ) (b : Bool) →
      cond b (Some count) (peaks_from fewer period (after period count)) ≡ Some top →
      (peaks_from fewer period (after period count) ≡ Some top →
      peaks_from more period (after period count) ≡ Some top) →
      cond b (Some count) (peaks_from more period (after period count)) ≡ Some top
  longer_by fewer more period count top true h rest = h
  longer_by fewer more period count top false h rest = rest h

  -- a peak that fewer steps find is found by more
  longer : (fewer more period count top : ℕ) → fewer ≤ more → peaks_from fewer period count ≡ Some top →
      peaks_from more period count ≡ Some top
  longer zero more period count top few h = absurd (none_some h)
  longer (suc fewer) zero period count top few h = absurd (omega (arith, few))
  longer (suc fewer) (suc more) period count top few h =
      longer_by fewer more period count top (is_steady M.rules.law M.rules.keep M.rules.decrement period count) h
      (longer fewer more period (after period count) top (omega (arith, few)))

  pub least_is : (least fewer top : ℕ) → fewer ≤ M.rules.threshold →
      peak_of M.rules.law M.rules.keep M.rules.decrement fewer (suc least) ≡ Some top → top < M.rules.threshold →
      ReachesThreshold M least → least_period M ≡ Some (suc least)
  least_is least fewer top few found below reaches =
      let stays : StaysBelow M (suc least) =
      stays_by M mission (suc least) (Some top) (longer fewer M.rules.threshold (suc least) 65536 top few found)
      (le-leb (suc top) M.rules.threshold below) in
      by stays (least_period M) refl
    where
      by : StaysBelow M (suc least) → (o : Option ℕ) → least_period M ≡ o → o ≡ Some (suc least)
      by stays None e = absurd (not_both M (suc least) stays (none_reaches e (suc least)))
      by stays (Some l) e = ap (λ k. Some k) (same l e (cases_lt (suc least) l) (cases_lt least l))
        where
          same : (l : ℕ) → least_period M ≡ Some l → (suc least < l) ⊎ (l ≤ suc least) → (least < l) ⊎ (l ≤ least) →
              l ≡ suc least
          same l e (inl over) b = absurd
              (not_both M (suc least) stays (reaches_under l (suc least) e (omega arith) over))
          same l e (inr under) (inl over) = omega (arith, under, over)
          same l e (inr under) (inr less) = absurd (not_both M least (stays_from l least e less) reaches)

module _ (M : MissionValue) (L : Log) (mission : IsMission M) where
  keeps : (m : ℕ) → KeepsFromLeastPeriod M (cycles_before M L m) (next_cycle M L (cycles_before M L m))
  keeps m q least period is few there sparse asked =
      let past = cycles_before M L m in
      let e = next_cycle M L past in
      let low : place_or e.counts q 0 < M.rules.threshold =
      subst (λ c. c < M.rules.threshold) (sym (counted_now M L mission m q there))
      (stays_from M mission least period is few (judgements q (e ∷ past)) sparse) in
      not_removed M L past q
      (clear_or (nat_le M.rules.threshold (place_or e.counts q 0)) (asks e.active e.fresh e.agreed q)
      (lt-leb M.rules.threshold (place_or e.counts q 0) low) asked)

pub run_keeps_from_least : (M : MissionValue) (L : Log) → IsMission M → (n : ℕ) →
    EachCycle (KeepsFromLeastPeriod M) (cycles_before M L n)
run_keeps_from_least M L mission n = each_of M L (KeepsFromLeastPeriod M) n (λ m soon. keeps M L mission m)
