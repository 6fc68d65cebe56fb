-- Whether a channel that is judged seldom can reach the threshold.
use Rattle.std.specs.Prelude.{◌≡◌, ◌≤◌, ◌⊎◌, ℕ, Bool, IsTrue, List, Some}
use Rattle.guards_model.specs.Missions.{MissionValue}
use Rattle.recovery_laws.specs.CountHistories.{count_after, is_sparse, peak_of}

-- As many peaks as the threshold has units are enough: the peak is among them, or some channel that is judged at most
-- once in so many cycles in a row reaches the threshold.
abbrev pub PeakOrReached : MissionValue → ℕ → Type 0
PeakOrReached M period =
    ((peak : ℕ) × (peak_of M.rules.law M.rules.keep M.rules.decrement M.rules.threshold period ≡ Some peak))
    ⊎ ((judged : List Bool) × IsTrue (is_sparse period judged)
    × (M.rules.threshold ≤ count_after M.rules.law M.rules.keep M.rules.decrement judged))
