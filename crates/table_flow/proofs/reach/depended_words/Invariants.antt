use Rattle.std.proofs.Common.{◌≡◌, ◌<◌, ◌≤◌, ◌*◌, ℕ}
use Rattle.context_blocks.specs.BlockSets.{flag_at}
use Rattle.table_flow.specs.Flow.{assignments, depends_within}
use Rattle.table_flow.proofs.reach.depended_words.Given as goal

abbrev pub invariant-loop-step : goal.invariant-loop-step
invariant-loop-step l = record {
  within : l.step ≤ l.blocks * 8;
  reached : (w : ℕ) → w < 2048 → flag_at l.words w ≡ depends_within (assignments l.table.rows) l.outputs l.step w;
}
