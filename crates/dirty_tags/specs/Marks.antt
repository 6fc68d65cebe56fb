-- A mark for each block.
use Rattle.std.specs.Prelude.{ℕ, Bool, false, List, filter, slice_index_or}
use Rattle.guards_model.specs.Channels.{numbers_below}

-- whether the block is marked
abbrev pub is_marked : List Bool → ℕ → Bool
is_marked marks b = slice_index_or marks b false

-- the marked blocks, ascending
unfoldable pub marked : ℕ → List Bool → List ℕ
marked blocks marks = filter (is_marked marks) (numbers_below blocks)
