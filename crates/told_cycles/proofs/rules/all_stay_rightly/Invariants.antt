use Rattle.std.proofs.Common.{◌≡◌, ℕ, ◌<◌, ◌==◌, not, ◌&&◌, ◌||◌, true, length}
use Rattle.std.specs.Prelude.{nat_le, nat_lt, slice_index}
use Rattle.std.specs.List.{list_all}
use Rattle.guards_model.specs.Channels.{has, without}
use Rattle.told_cycles.proofs.rules.all_stay_rightly.Given as goal

-- the channels so far stay rightly
abbrev pub invariant-loop-chan : goal.invariant-loop-chan
invariant-loop-chan l =
    (q : ℕ) → q < l.chan →
    (not (has l.active q) || ((not (nat_le l.threshold (slice_index l.counts q)) || has l.removed q)
    || (length (without l.active l.removed) == 3 && list_all (λ p. nat_lt p q) l.removed))) ≡ true
