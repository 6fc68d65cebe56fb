use Rattle.std.proofs.Common.{◌≡◌, ℕ, ◌+◌, ◌*◌, ◌<◌, ◌≤◌, ◌||◌, Bool, true, List, length, take, drop}
use Rattle.std.specs.Prelude.{map, nat_lt}
use Rattle.std.specs.List.{list_all}
use Rattle.guards_model.specs.Channels.{has}
use Rattle.context_blocks.specs.BlockSets.{blocks_where}
use Rattle.task_table.proofs.RowWrites.{blocks_in}
use Rattle.task_table.proofs.row.insert_blocks.Given as goal

abbrev pub invariant-loop-write : goal.invariant-loop-write
invariant-loop-write l = record {
  set : (test : ℕ → Bool) → l.initial.blocks ≡ blocks_where test →
      l.blocks ≡ blocks_where (λ block. test block || has (blocks_in (take l.write-index l.writes)) block);
  low : list_all (λ block. nat_lt block 256) (blocks_in (take l.write-index l.writes)) ≡ true;
}
