use Rattle.std.proofs.Common.{◌≡◌, ◌<◌, ◌==◌, ℕ, take}
use Rattle.std.specs.List.{list_any}
use Rattle.context_blocks.specs.BlockSets.{flag_at}
use Rattle.table_flow.specs.Flow.{word_number}
use Rattle.table_flow.proofs.reach.output_words.Given as goal

abbrev pub invariant-loop-place : goal.invariant-loop-place
invariant-loop-place l = (w : ℕ) → w < 2048 →
    flag_at l.words w ≡ list_any (λ (o : ℕ × ℕ). word_number o.0 o.1 == w) (take l.place l.outputs)
