-- The place of a path among all paths of as many labels, in ascending order. A path is its labels, the last relay
-- first, as in the definitions of oral messages.
use Rattle.std.specs.Prelude.{ℕ, zero, suc, ◌+◌, ◌-◌, ◌*◌, nat_lt, List, [], ◌∷◌, length, count_by, Bool, ◌&&◌}
use Rattle.std.specs.List.{list_all}
use Rattle.guards_model.specs.Channels.{Channel, ChannelSet, has, without}
use Rattle.guards_model.specs.Frames.{is_distinct}
use Rattle.guards_model.specs.OralMessages.{PathValue}

-- how many members that are not on the path stand below a label
abbrev pub below : ChannelSet → PathValue → Channel → ℕ
below active y j = count_by (λ q. nat_lt q j) (without active y)

-- the paths that go on from one path stand together, as many as there are members that are not on it
unfoldable pub rank : ChannelSet → PathValue → ℕ
rank active [] = 0
rank active (j ∷ y) = rank active y * (length active - length y) + below active y j

-- in how many ways a path goes on by k labels where n members are left
abbrev pub ways : ℕ → ℕ → ℕ
ways n zero = 1
ways n (suc k) = n * ways (n - 1) k

-- the same place as a sum over the labels, from the first: how many members below it did not stand before it,
-- times the ways to go on to the path's length
unfoldable pub rank_sum : ChannelSet → PathValue → List Channel → ℕ
rank_sum active before [] = 0
rank_sum active before (j ∷ rest) =
    below active before j * ways (length active - (length before + 1)) (length rest) + rank_sum active (j ∷ before) rest

-- a path of members, all different
abbrev pub is_path : ChannelSet → PathValue → Bool
is_path active y = is_distinct y && list_all (has active) y
