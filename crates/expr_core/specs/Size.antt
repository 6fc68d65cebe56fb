-- The size of an expression.
use Rattle.std.specs.Prelude.{ℕ, ◌+◌, max}
use Rattle.guards_model.specs.Expressions.{Expression, number, cycle_number, input, block_word, negative, binary, call, pick}

-- how many nodes an expression has; parentheses are none
abbrev pub node_count : Expression → ℕ
node_count (number z) = 1
node_count cycle_number = 1
node_count (input k) = 1
node_count (block_word i j) = 1
node_count (negative a) = node_count a + 1
node_count (binary op a b) = node_count a + node_count b + 1
node_count (call code x y z) = node_count x + node_count y + node_count z + 1
node_count (pick x y z) = node_count x + node_count y + node_count z + 1

-- 1 for a node without parts, and else 1 more than the deepest part has
abbrev pub tree_depth : Expression → ℕ
tree_depth (number z) = 1
tree_depth cycle_number = 1
tree_depth (input k) = 1
tree_depth (block_word i j) = 1
tree_depth (negative a) = tree_depth a + 1
tree_depth (binary op a b) = max (tree_depth a) (tree_depth b) + 1
tree_depth (call code x y z) = max (max (tree_depth x) (tree_depth y)) (tree_depth z) + 1
tree_depth (pick x y z) = max (max (tree_depth x) (tree_depth y)) (tree_depth z) + 1
