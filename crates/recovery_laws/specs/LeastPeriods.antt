-- How seldom a channel is to be judged so that its count stays below the threshold.
use Rattle.std.specs.Prelude.{◌≡◌, ◌≤◌, ◌<◌, ℕ, Bool, false, nat_lt, IsTrue, List, ◌∷◌, find, Option, Some, None}
use Rattle.std.specs.List.{range_with_len}
use Rattle.guards_model.specs.declared.Law.{Law}
use Rattle.guards_model.specs.declared.Law.TheVariants.{Multiply, Subtract}
use Rattle.guards_model.specs.Channels.{Channel, has}
use Rattle.guards_model.specs.Missions.{MissionValue}
use Rattle.guards_model.specs.Diagnosis.{asks}
use Rattle.guards_runs.specs.Cycles.{Past, Cycle}
use Rattle.recovery_laws.specs.CountHistories.{judgements, count_after, is_sparse, peak_of}

-- ---- what is asked

-- whatever its judgements, of which at most one is in any so many cycles in a row, the count stays below the threshold
abbrev pub StaysBelow : MissionValue → ℕ → Type 0
StaysBelow M period =
    (judged : List Bool) → IsTrue (is_sparse period judged) →
    count_after M.rules.law M.rules.keep M.rules.decrement judged < M.rules.threshold

-- some such judgements bring it to the threshold
abbrev pub ReachesThreshold : MissionValue → ℕ → Type 0
ReachesThreshold M period =
    (judged : List Bool) × IsTrue (is_sparse period judged)
    × (M.rules.threshold ≤ count_after M.rules.law M.rules.keep M.rules.decrement judged)

-- ---- what is computed

-- a peak that is below the threshold
abbrev pub is_below : ℕ → Option ℕ → Bool
is_below threshold None = false
is_below threshold (Some peak) = nat_lt peak threshold

-- whether there is a peak below the threshold, among as many as the threshold has units
unfoldable pub stays_below : MissionValue → ℕ → Bool
stays_below M period =
    is_below M.rules.threshold (peak_of M.rules.law M.rules.keep M.rules.decrement M.rules.threshold period)

-- in one cycle more than a single judgement has units it has decayed to nothing, where counts decay at all
abbrev pub most_period : ℕ
most_period = 65537

-- the least number of cycles, from 1 on, in any of which in a row a channel may be judged once and stay below the
-- threshold
unfoldable pub least_period : MissionValue → Option ℕ
least_period M = find (stays_below M) (range_with_len 1 most_period)

-- whether the count of a channel that is not judged falls
abbrev pub decays : Law → ℕ → ℕ → Bool
decays Multiply keep decrement = nat_lt keep 65536
decays Subtract keep decrement = nat_lt 0 decrement

-- ---- in a run

-- a channel that is judged at most once in any so many cycles in a row since it last became active, of which there are
-- no fewer than the least period, is not removed where no request of it stands
abbrev pub KeepsFromLeastPeriod : MissionValue → Past → Cycle → Type 0
KeepsFromLeastPeriod M past e =
    (q : Channel) (least period : ℕ) → least_period M ≡ Some least → least ≤ period → IsTrue (has e.active q) →
    IsTrue (is_sparse period (judgements q (e ∷ past))) → asks e.active e.fresh e.agreed q ≡ false →
    has e.removed q ≡ false
