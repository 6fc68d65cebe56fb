use Rattle.std.proofs.Common.{◌≡◌, ℕ, ◌<◌, length, None}
use Rattle.std.specs.Prelude.{slice_index_or}
use Rattle.told_cycles.specs.Sweeping.{is_flagged, remains_by}
use Rattle.told_cycles.proofs.sweeps.Sweeps.flags.Given as goal

abbrev pub invariant-loop-block : goal.invariant-loop-block
invariant-loop-block l =
    (length l.flags ≡ 256) × ((b : ℕ) → b < l.block →
    is_flagged l.flags b ≡ remains_by (slice_index_or l.self.planned b None) (slice_index_or l.self.written b None))
