-- Sets of blocks, as the ascending lists of their numbers.
use Rattle.std.specs.Prelude.{ℕ, Bool, false, List, filter, slice_index_or}
use Rattle.guards_model.specs.Channels.{numbers_below}

-- the numbers below a bound that pass the test
unfoldable pub numbers_where : ℕ → (ℕ → Bool) → List ℕ
numbers_where bound test = filter test (numbers_below bound)

-- the numbers of blocks that pass the test
abbrev pub blocks_where : (ℕ → Bool) → List ℕ
blocks_where test = numbers_where 256 test

-- whether the flag of a number is set
abbrev pub flag_at : List Bool → ℕ → Bool
flag_at flags block = slice_index_or flags block false
