-- Which words of a context the expressions of a table are stored in and name, and which words the outputs depend on.
-- This project's own.
use Rattle.std.specs.Prelude.{◌≡◌, ℕ, zero, suc, ◌+◌, ◌*◌, ◌<◌, Bool, true, false, ◌&&◌, ◌||◌, ◌==◌, nat_lt, List, [], ◌∷◌, ◌++◌, flat_map, Option, Some, None}
use Rattle.std.specs.List.{list_all, list_any}
use Rattle.guards_model.specs.Expressions.{Expression, number, cycle_number, input, block_word, negative, binary, call, pick}
use Rattle.guards_model.specs.Tasks.{TaskValue, WriteValue}
use Rattle.context_blocks.specs.BlockSets.{flag_at}
use Rattle.table_flow.specs.declared.flow.Flow.{Flow}

-- the words of a context in one row: eight for each block
abbrev pub word_number : ℕ → ℕ → ℕ
word_number block word = block * 8 + word

-- whether an expression names a word
abbrev pub names_word : Expression → ℕ → Bool
names_word (number z) w = false
names_word cycle_number w = false
names_word (input k) w = false
names_word (block_word i j) w = word_number i j == w
names_word (negative a) w = names_word a w
names_word (binary op a b) w = names_word a w || names_word b w
names_word (call code x y z) w = (names_word x w || names_word y w) || names_word z w
names_word (pick x y z) w = (names_word x w || names_word y w) || names_word z w

-- whether an expression names an input
abbrev pub names_input : Expression → ℕ → Bool
names_input (number z) k = false
names_input cycle_number k = false
names_input (input i) k = i == k
names_input (block_word i j) k = false
names_input (negative a) k = names_input a k
names_input (binary op a b) k = names_input a k || names_input b k
names_input (call code x y z) k = (names_input x k || names_input y k) || names_input z k
names_input (pick x y z) k = (names_input x k || names_input y k) || names_input z k

-- a word, and an expression that is stored in it
pub record Assignment : Type 0 where
  pub word : ℕ
  pub value : Expression

-- the lists of a list's elements by their places, the first of which is k, one after the other
abbrev pub lists_from : {A B : Type 0} → (ℕ → A → List B) → ℕ → List A → List B
lists_from f k [] = []
lists_from f k (x ∷ xs) = f k x ++ lists_from f (k + 1) xs

-- the assignment of a word of a block, if it has an expression
abbrev pub word_assignments : ℕ → ℕ → Option Expression → List Assignment
word_assignments block word None = []
word_assignments block word (Some e) = record { word = word_number block word; value = e } ∷ []

-- the assignments of a write, of a task, of a row, and of all rows of a table
unfoldable pub write_assignments : WriteValue → List Assignment
write_assignments w = lists_from (word_assignments w.block) 0 w.set

unfoldable pub task_assignments : TaskValue → List Assignment
task_assignments t = flat_map write_assignments t.writes

unfoldable pub row_assignments : List TaskValue → List Assignment
row_assignments tasks = flat_map task_assignments tasks

unfoldable pub assignments : List (List TaskValue) → List Assignment
assignments rows = flat_map row_assignments rows

-- whether an expression of the table is stored in a word, names it, or names an input
abbrev pub is_written : List (List TaskValue) → ℕ → Bool
is_written rows w = list_any (λ a. a.word == w) (assignments rows)

abbrev pub is_read : List (List TaskValue) → ℕ → Bool
is_read rows w = list_any (λ a. names_word a.value w) (assignments rows)

abbrev pub is_input_read : List (List TaskValue) → ℕ → Bool
is_input_read rows k = list_any (λ a. names_input a.value k) (assignments rows)

-- the words that expressions of the words that pass name
abbrev pub feeds : List Assignment → (ℕ → Bool) → ℕ → Bool
feeds list passes w = list_any (λ a. passes a.word && names_word a.value w) list

-- The words on which the outputs depend by at most so many steps: the outputs, and what the expressions name that are
-- stored in words on which they depend by one step less.
abbrev pub depends_within : List Assignment → List (ℕ × ℕ) → ℕ → ℕ → Bool
depends_within list outputs zero w = list_any (λ o. word_number o.0 o.1 == w) outputs
depends_within list outputs (suc n) w =
    depends_within list outputs n w || feeds list (depends_within list outputs n) w

-- The words on which the outputs depend. A context of so many blocks has eight times as many words, and so many steps
-- reach all of them.
abbrev pub is_depended_on : ℕ → List (List TaskValue) → List (ℕ × ℕ) → ℕ → Bool
is_depended_on blocks rows outputs w = depends_within (assignments rows) outputs (blocks * 8) w

-- The flags after the assignments of a list to words that are kept: what they name, and the words themselves, were
-- added.
pub record FlowsInto (kept : ℕ → Bool) (list : List Assignment) (old new : Flow) : Type 0 where
  pub words : (w : ℕ) → w < 2048 → flag_at new.words w ≡ (flag_at old.words w || feeds list kept w)
  pub inputs : (k : ℕ) → k < 4 → flag_at new.inputs k ≡ (flag_at old.inputs k
      || list_any (λ a. kept a.word && names_input a.value k) list)
  pub written : (w : ℕ) → w < 2048 → flag_at new.written w ≡ (flag_at old.written w
      || list_any (λ a. kept a.word && a.word == w) list)
  -- each of them is to a word of a context
  pub low : list_all (λ a. nat_lt a.word 2048) list ≡ true
