-- The peaks tell whether a channel that is judged seldom can reach the threshold.
use Rattle.std.proofs.Common.{◌≡◌, ℕ, zero, suc, ◌+◌, ◌-◌, ◌<◌, ◌≤◌, ◌⊎◌, inl, inr, Bool, true, false, cond, ◌&&◌, List, Option, Some, refl, arith}
use Rattle.std.specs.Prelude.{IsTrue, nat_le}
use Rattle.std.proofs.lemmas.Bool.{leb-true, leb-false, cases_lt}
use Rattle.guards_model.specs.declared.Law.{Law}
use Rattle.guards_model.specs.Missions.{MissionValue, IsMission, within, is_law}
use Rattle.guards_model.proofs.BoolTests.{both}
use Rattle.guards_laws.proofs.Planned.{ranges}
use Rattle.recovery_laws.specs.CountHistories.{count_after, decayed_for, next_peak, is_steady, peak_from, peak_of, is_sparse}
use Rattle.recovery_laws.specs.LeastPeriods.{ReachesThreshold}
use Rattle.recovery_laws.specs.PeaksDecided.{PeakOrReached}
use Rattle.recovery_laws.proofs.Judgement.{decayed_no_higher}
use Rattle.recovery_laws.proofs.HighestCounts.{Reached, next_reached, first_reached}

module _ (law : Law) (keep decrement : ℕ) (small : keep ≤ 65536) (period threshold : ℕ)
    (few : threshold ≤ 6553600) where
  no_higher_for : (k count : ℕ) → decayed_for law keep decrement k count ≤ count
  no_higher_for zero count = omega arith
  no_higher_for (suc k) count =
      omega (
        arith,
        decayed_no_higher law keep decrement (decayed_for law keep decrement k count) small,
        no_higher_for k count,
      )

  abbrev ReachesIt : Type 0
  ReachesIt = (judged : List Bool) × IsTrue (is_sparse period judged)
      × (threshold ≤ count_after law keep decrement judged)

  abbrev Finds : Option ℕ → Type 0
  Finds found = ((peak : ℕ) × (found ≡ Some peak) × Reached law keep decrement period peak) ⊎ ReachesIt

  -- each count that is not steady is followed by a greater one
  step : (fuel count : ℕ) (b : Bool) → is_steady law keep decrement period count ≡ b → threshold ≤ count + suc fuel →
      Reached law keep decrement period count →
      (threshold ≤ next_peak law keep decrement period count + fuel →
      Reached law keep decrement period (next_peak law keep decrement period count) →
      Finds (peak_from law keep decrement fuel period (next_peak law keep decrement period count))) →
      Finds (cond b (Some count) (peak_from law keep decrement fuel period (next_peak law keep decrement period count)))
  step fuel count true e enough reached more = inl (count, refl, reached)
  step fuel count false e enough (judged, sparse, is) more =
      let up : count < next_peak law keep decrement period count =
      leb-false (next_peak law keep decrement period count) count e in
      elim (cases_lt count threshold) [
        | inl below ↦ more (omega (arith, enough, up))
            (next_reached law keep decrement period count (judged, sparse, is)
            (omega (arith, no_higher_for (period - 1) count, below, few)))
        | inr above ↦ inr (judged, sparse, omega (arith, above, is))
      ]

  pub decided : (fuel count : ℕ) → threshold ≤ count + fuel → Reached law keep decrement period count →
      Finds (peak_from law keep decrement fuel period count)
  decided zero count enough (judged, sparse, is) = inr (judged, sparse, omega (arith, enough, is))
  decided (suc fuel) count enough reached =
      step fuel count (is_steady law keep decrement period count) refl enough reached
      (decided fuel (next_peak law keep decrement period count))

pub few_threshold : (M : MissionValue) → IsMission M → M.rules.threshold ≤ 6553600
few_threshold M mission =
    let a = both ((within 3 7 M.rules.channels && within 1 256 M.rules.blocks)
    && (within 0 65536 M.rules.keep && within 65536 6553600 M.rules.threshold))
    ((within 1 64 M.rules.sweep && within 0 64 M.rules.last)
    && ((within 1 2 M.rules.version && is_law M.rules.version M.rules.law)
    && (within 0 6553600 M.rules.decrement && within 1 2 M.rules.returning))) mission.rules in
    let b = both (within 3 7 M.rules.channels && within 1 256 M.rules.blocks)
    (within 0 65536 M.rules.keep && within 65536 6553600 M.rules.threshold) a.0 in
    let c = both (within 0 65536 M.rules.keep) (within 65536 6553600 M.rules.threshold) b.1 in
    leb-true M.rules.threshold 6553600 (both (nat_le 65536 M.rules.threshold) (nat_le M.rules.threshold 6553600) c.1).1

-- the peak, which is reached, or judgements that reach the threshold
pub decided_here : (M : MissionValue) (period : ℕ) → IsMission M →
    ((peak : ℕ) × (peak_of M.rules.law M.rules.keep M.rules.decrement M.rules.threshold period ≡ Some peak)
    × Reached M.rules.law M.rules.keep M.rules.decrement period peak)
    ⊎ ReachesThreshold M period
decided_here M period mission =
    decided M.rules.law M.rules.keep M.rules.decrement (ranges M mission).keep period M.rules.threshold
    (few_threshold M mission) M.rules.threshold 65536
    (omega arith) (first_reached M.rules.law M.rules.keep M.rules.decrement period)

pub peak_or_reached : (M : MissionValue) (period : ℕ) → IsMission M → PeakOrReached M period
peak_or_reached M period mission =
    elim (decided_here M period mission) [
      | inl (peak, is, reached) ↦ inl (peak, is)
      | inr found ↦ inr found
    ]
