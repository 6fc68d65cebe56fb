use Rattle.std.proofs.Common.{◌≡◌, ℕ, cond, nat_lt, None, Some}
use Rattle.std.specs.Prelude.{slice_index_or}
use Rattle.guards_model.specs.Channels.{has}
use Rattle.told_cycles.proofs.sweeps.note_written.Given as goal

abbrev pub invariant-loop-block : goal.invariant-loop-block
invariant-loop-block l =
    (b : ℕ) → slice_index_or l.table b None
    ≡ cond (nat_lt b l.block) (cond (has l.blocks b) (Some l.cycle) (slice_index_or l.initial.table b None))
    (slice_index_or l.initial.table b None)
