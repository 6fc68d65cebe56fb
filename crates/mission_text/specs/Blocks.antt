-- The key `init`: the blocks that do not begin with zero.
use Rattle.std.specs.Prelude.{ℕ, ℤ, ◌-◌, Bool, not, nat_lt, ◌&&◌, ◌==◌, length, List, [], ◌∷◌, codes, slice_set, Ok, Option, Some, None}
use Rattle.std.specs.List.{list_all, list_any}
use Rattle.toml.specs.Data.{Data, Members, get_member}
use Rattle.guards_model.specs.Contexts.{ContextValue, zeroed}
use Rattle.guards_model.specs.Words.{is_word}
use Rattle.mission_text.specs.declared.blocks.InitBlock.{InitBlock}
use Rattle.document_checks.specs.declared.why.Cause.TheVariants.{Duplicate}
use Rattle.document_checks.specs.Checks.{Checked, ◌>>=◌, field, required, table_of, only, demand, number, sized, each, integers}

abbrev pub names_block : ℕ → InitBlock → Bool
names_block block earlier = earlier.block == block

-- a block that no earlier element names, and its eight words
unfoldable pub init_block_at : ℕ → List InitBlock → List ℕ → Data → Checked InitBlock
init_block_at blocks earlier path value = do
  fields ← table_of path value
  _ ← only (codes "block" ∷ codes "words" ∷ []) path fields
  block ← number 0 (blocks - 1) path (codes "block") fields
  _ ← demand (not (list_any (names_block block) earlier)) Duplicate (field path (codes "block"))
  given ← required path (codes "words") fields
  words ← integers 8 (field path (codes "words")) given
  Ok (record { block = block; words = words })

unfoldable pub init_blocks_at : ℕ → List ℕ → Data → Checked (List InitBlock)
init_blocks_at blocks path value = do
  items ← sized 0 256 path value
  each (init_block_at blocks) path [] items

-- a context with some blocks set, one after the other
abbrev pub with_blocks : List InitBlock → ContextValue → ContextValue
with_blocks [] ctx = ctx
with_blocks (e ∷ es) ctx = with_blocks es (slice_set ctx e.block e.words)

unfoldable pub initial_at : ℕ → List ℕ → Data → Checked ContextValue
initial_at blocks path value = do
  named ← init_blocks_at blocks path value
  Ok (with_blocks named (zeroed blocks))

abbrev pub initial_or_zero : ℕ → List ℕ → Option Data → Checked ContextValue
initial_or_zero blocks path None = Ok (zeroed blocks)
initial_or_zero blocks path (Some value) = initial_at blocks path value

unfoldable pub initial_field : ℕ → Members → Checked ContextValue
initial_field blocks fields = initial_or_zero blocks (codes "init") (get_member (codes "init") fields)

-- ---- what is known of an element that was read

-- eight words
abbrev pub is_block : List ℤ → Bool
is_block words = length words == 8 && list_all is_word words

abbrev pub is_init_block : ℕ → InitBlock → Bool
is_init_block blocks e = nat_lt e.block blocks && is_block e.words
