use Rattle.std.proofs.Common.{◌≡◌, ℕ, ◌<◌, cond, length, take, None, Some}
use Rattle.std.specs.Prelude.{slice_index_or}
use Rattle.guards_model.specs.Channels.{has}
use Rattle.told_cycles.proofs.sweeps.note_planned.Given as goal

abbrev pub invariant-loop-block : goal.invariant-loop-block
invariant-loop-block l = record {
  whole : length l.table ≡ 256;
  noted : (b : ℕ) → b < 256 →
      slice_index_or l.table b None
      ≡ cond (has (take l.block-index l.plan) b) (Some l.cycle) (slice_index_or l.initial.table b None);
}
