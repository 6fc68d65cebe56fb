use Rattle.std.proofs.Common.{◌≡◌, ℕ, ◌+◌, ◌*◌, ◌<◌, ◌≤◌, ◌||◌, true, List, length, take, drop}
use Rattle.std.specs.Prelude.{map, nat_lt}
use Rattle.std.specs.List.{list_all}
use Rattle.guards_model.specs.Channels.{has}
use Rattle.context_blocks.specs.BlockSets.{blocks_where}
use Rattle.task_table.proofs.RowWrites.{named_writes, blocks_in}
use Rattle.task_table.proofs.row.blocks_of.Given as goal

abbrev pub invariant-loop-place : goal.invariant-loop-place
invariant-loop-place l = record {
  set : l.blocks ≡ blocks_where (has (blocks_in (named_writes l.tasks (take l.place-index l.row))));
  low : list_all (λ block. nat_lt block 256) (blocks_in (named_writes l.tasks (take l.place-index l.row))) ≡ true;
}
