-- The key `task`: the tasks with their writes.
use Rattle.std.specs.Prelude.{ℕ, Bool, false, not, ◌&&◌, ◌||◌, ◌==◌, nat_le, List, [], ◌∷◌, ◌++◌, length, codes, Option, Some, None, Ok}
use Rattle.std.specs.List.{list_all, list_any}
use Rattle.std.specs.Str.{bytes_eq}
use Rattle.toml.specs.Data.{Data, Members, get_member}
use Rattle.guards_model.specs.Expressions.{Expression, fits_or_none}
use Rattle.guards_model.specs.Missions.{within}
use Rattle.guards_model.specs.Tasks.{WriteValue, TaskValue}
use Rattle.document_checks.specs.declared.why.Cause.TheVariants.{OutOfRange, Duplicate}
use Rattle.document_checks.specs.Checks.{Checked, ◌>>=◌, field, required, text_of, table_of, array_of, only, demand, number, each, alone}
use Rattle.mission_text.specs.Expressions.{expression_at}

-- ---- writes

abbrev pub expression_or_none : ℕ → ℕ → List ℕ → Option Data → Checked (Option Expression)
expression_or_none blocks width path None = Ok None
expression_or_none blocks width path (Some value) = expression_at blocks width path value >>= (λ e. Ok (Some e))

-- the expression for a word, if there is one
unfoldable pub set_expression_at : ℕ → ℕ → List ℕ → List ℕ → Members → Checked (Option Expression)
set_expression_at blocks width path key fields =
    expression_or_none blocks width (field path key) (get_member key fields)

-- the expressions for four words of a block
unfoldable pub four_sets_at : ℕ → ℕ → List ℕ → (k0 k1 k2 k3 : List ℕ) → Members → Checked (List (Option Expression))
four_sets_at blocks width path k0 k1 k2 k3 fields = do
  a ← set_expression_at blocks width path k0 fields
  b ← set_expression_at blocks width path k1 fields
  c ← set_expression_at blocks width path k2 fields
  d ← set_expression_at blocks width path k3 fields
  Ok (a ∷ b ∷ c ∷ d ∷ [])

-- the expressions for the eight words of a block, in their order
unfoldable pub expressions_at : ℕ → ℕ → List ℕ → Members → Checked (List (Option Expression))
expressions_at blocks width path fields = do
  low ← four_sets_at blocks width path (codes "w0") (codes "w1") (codes "w2") (codes "w3") fields
  high ← four_sets_at blocks width path (codes "w4") (codes "w5") (codes "w6") (codes "w7") fields
  Ok (low ++ high)

abbrev pub write_keys : List (List ℕ)
write_keys =
    codes "block" ∷ codes "w0" ∷ codes "w1" ∷ codes "w2" ∷ codes "w3" ∷ codes "w4" ∷ codes "w5" ∷ codes "w6"
    ∷ codes "w7" ∷ []

unfoldable pub write_at : ℕ → ℕ → List ℕ → Data → Checked WriteValue
write_at blocks width path value = do
  fields ← table_of path value
  _ ← only write_keys path fields
  block ← number 0 255 path (codes "block") fields
  set ← expressions_at blocks width path fields
  Ok (record { block = block; set = set })

-- ---- tasks

abbrev pub is_letter : ℕ → Bool
is_letter b = within 97 122 b

abbrev pub is_name_byte : ℕ → Bool
is_name_byte b = (is_letter b || within 48 57 b) || b == 95

-- a letter a to z, and then letters, digits and `_`; at most 32 bytes
abbrev pub is_name : List ℕ → Bool
is_name [] = false
is_name (b ∷ bs) = (is_letter b && list_all is_name_byte bs) && nat_le (length bs) 31

abbrev pub has_name : List ℕ → TaskValue → Bool
has_name name task = bytes_eq task.name name

-- a name that no earlier task has
unfoldable pub name_at : List TaskValue → List ℕ → Members → Checked (List ℕ)
name_at earlier path fields = do
  given ← required path (codes "name") fields
  name ← text_of (field path (codes "name")) given
  _ ← demand (is_name name) OutOfRange (field path (codes "name"))
  _ ← demand (not (list_any (has_name name) earlier)) Duplicate (field path (codes "name"))
  Ok name

unfoldable pub writes_at : ℕ → ℕ → List ℕ → Members → Checked (List WriteValue)
writes_at blocks width path fields = do
  given ← required path (codes "writes") fields
  items ← array_of (field path (codes "writes")) given
  each (alone (write_at blocks width)) (field path (codes "writes")) [] items

unfoldable pub task_at : ℕ → ℕ → List TaskValue → List ℕ → Data → Checked TaskValue
task_at blocks width earlier path value = do
  fields ← table_of path value
  _ ← only (codes "name" ∷ codes "writes" ∷ []) path fields
  name ← name_at earlier path fields
  writes ← writes_at blocks width path fields
  Ok (record { name = name; writes = writes })

unfoldable pub tasks_field : ℕ → ℕ → Members → Checked (List TaskValue)
tasks_field blocks width fields = do
  given ← required [] (codes "task") fields
  items ← array_of (codes "task") given
  each (task_at blocks width) (codes "task") [] items

-- ---- what is known of the tasks that were read

-- eight words, each with an expression that fits or none
abbrev pub are_sets : ℕ → ℕ → List (Option Expression) → Bool
are_sets blocks width set = length set == 8 && list_all (fits_or_none blocks width) set

abbrev pub is_read_task : ℕ → ℕ → TaskValue → Bool
is_read_task blocks width task = list_all (λ write. are_sets blocks width write.set) task.writes
