-- The checks that a mission passes, in their order: each gives its value, or says why it fails.
-- A check of a value is told the path of the place where the value stands.
use Rattle.std.specs.Prelude.{◌≡◌, ℕ, ◌+◌, ℤ, pos, negsuc, Bool, true, ◌&&◌, nat_le, ◌==◌, length, List, [], ◌∷◌, ◌++◌, codes, decimal, Option, Some, None, Result, Ok, Err, if◌then◌else◌}
use Rattle.std.specs.List.{list_any}
use Rattle.std.specs.Str.{bytes_eq, is_utf8}
use Rattle.toml.specs.Data.{Data, string, integer, array, table, Items, no_items, item, Members, no_members, member, get_member}
use Rattle.toml.specs.Parse.{parse_document}
use Rattle.document_checks.specs.declared.why.Why.{Why}
use Rattle.document_checks.specs.declared.why.Cause.{Cause}
use Rattle.document_checks.specs.declared.why.Cause.TheVariants.{NotToml, Missing, WrongType, OutOfRange, Unknown}
use Rattle.document_checks.specs.declared.why.ReadFault.{ReadFault}
use Rattle.document_checks.specs.declared.why.ReadFault.TheVariants as fault

abbrev pub Checked : Type 0 → Type 0
Checked A = Result A Why

-- A later check is made only where the earlier ones pass.
infixl 10 ◌>>=◌
abbrev pub ◌>>=◌ : {A B : Type 0} → Checked A → (A → Checked B) → Checked B
(Ok x) >>= f = f x
(Err why) >>= f = Err why

abbrev pub fails : {A : Type 0} → Cause → List ℕ → Checked A
fails cause path = Err (record { cause = cause; path = path; at = None })

-- a fault of a text, at a place in it
abbrev pub fails_at_place : {A : Type 0} → Cause → List ℕ → ℕ → Checked A
fails_at_place cause path place = Err (record { cause = cause; path = path; at = Some place })

-- What a reader returned, seen by view, is what the checks give, unless memory ran out.
abbrev pub Fails : {B : Type 0} → ReadFault → Checked B → Type 0
Fails fault.Memory checked = Unit {0}
Fails (fault.Bad why) checked = checked ≡ Err why

-- the fault is this one, unless memory ran out
abbrev pub Refuses : Cause → List ℕ → ReadFault → Type 0
Refuses cause path fault.Memory = Unit {0}
Refuses cause path (fault.Bad why) = why ≡ record { cause = cause; path = path; at = None }

-- the same of a fault at a place in a text
abbrev pub RefusesAt : Cause → List ℕ → ℕ → ReadFault → Type 0
RefusesAt cause path place fault.Memory = Unit {0}
RefusesAt cause path place (fault.Bad why) = why ≡ record { cause = cause; path = path; at = Some place }

abbrev pub Gives : {A B : Type 0} → (A → B) → Result A ReadFault → Checked B → Type 0
Gives view (Ok x) checked = checked ≡ Ok (view x)
Gives view (Err e) checked = Fails e checked

-- ---- paths

-- the path of a key in the table at a path, where the whole document has the empty path
abbrev pub field : List ℕ → List ℕ → List ℕ
field path key = if length path == 0 then key else path ++ (codes "." ++ key)

-- the path of an element
abbrev pub element : List ℕ → ℕ → List ℕ
element path place = path ++ (codes "[" ++ (decimal place ++ codes "]"))

-- how the path of a table is spelled
abbrev pub path_spelled : List ℕ → List ℕ
path_spelled path = if length path == 0 then codes "-" else path

-- ---- values

abbrev pub integer_in : ℕ → ℕ → List ℕ → Data → Checked ℕ
integer_in low high path (integer (pos n)) = if nat_le low n && nat_le n high then Ok n else fails OutOfRange path
integer_in low high path (integer (negsuc n)) = fails OutOfRange path
integer_in low high path _ = fails WrongType path

abbrev pub integer_of : List ℕ → Data → Checked ℤ
integer_of path (integer z) = Ok z
integer_of path _ = fails WrongType path

abbrev pub text_of : List ℕ → Data → Checked (List ℕ)
text_of path (string text) = Ok text
text_of path _ = fails WrongType path

abbrev pub table_of : List ℕ → Data → Checked Members
table_of path (table fields) = Ok fields
table_of path _ = fails WrongType path

abbrev pub array_of : List ℕ → Data → Checked Items
array_of path (array items) = Ok items
array_of path _ = fails WrongType path

-- ---- fields

-- a field that has to be there
abbrev pub found : List ℕ → Option Data → Checked Data
found path None = fails Missing path
found path (Some value) = Ok value

abbrev pub required : List ℕ → List ℕ → Members → Checked Data
required path key fields = found (field path key) (get_member key fields)

-- an integer that has a default
abbrev pub integer_or : ℕ → ℕ → ℕ → List ℕ → Option Data → Checked ℕ
integer_or default low high path None = Ok default
integer_or default low high path (Some value) = integer_in low high path value

-- a number within a range that has to be there
unfoldable pub number : ℕ → ℕ → List ℕ → List ℕ → Members → Checked ℕ
number low high path key fields = do
  value ← required path key fields
  integer_in low high (field path key) value

-- a number within a range that has a default
unfoldable pub number_or : ℕ → ℕ → ℕ → List ℕ → List ℕ → Members → Checked ℕ
number_or default low high path key fields = integer_or default low high (field path key) (get_member key fields)

-- each key of a table is one of these
abbrev pub has_only : List (List ℕ) → Members → Bool
has_only known no_members = true
has_only known (member key value rest) = list_any (bytes_eq key) known && has_only known rest

abbrev pub only : List (List ℕ) → List ℕ → Members → Checked (Unit {0})
only known path fields = if has_only known fields then Ok tt else fails Unknown (path_spelled path)

-- a condition
abbrev pub demand : Bool → Cause → List ℕ → Checked (Unit {0})
demand holds cause path = if holds then Ok tt else fails cause path

-- ---- elements

abbrev pub how_many : Items → ℕ
how_many no_items = 0
how_many (item value rest) = how_many rest + 1

-- an array of so many elements
unfoldable pub sized : ℕ → ℕ → List ℕ → Data → Checked Items
sized low high path value = do
  items ← array_of path value
  _ ← demand (nat_le low (how_many items) && nat_le (how_many items) high) OutOfRange path
  Ok items

-- The elements of an array in order. The check of each is told those before it.
unfoldable pub each : {A : Type 0} → (List A → List ℕ → Data → Checked A) → List ℕ → List A → Items → Checked (List A)
each check path done no_items = Ok done
each check path done (item value rest) = do
  x ← check done (element path (length done)) value
  each check path (done ++ x ∷ []) rest

-- a check of an element that does not look at those before it
abbrev pub alone : {A : Type 0} → (List ℕ → Data → Checked A) → List A → List ℕ → Data → Checked A
alone check earlier path value = check path value

-- an array of so many integers
unfoldable pub integers : ℕ → List ℕ → Data → Checked (List ℤ)
integers count path value = do
  items ← sized count count path value
  each (alone integer_of) path [] items

-- ---- the document

abbrev pub table_in : Option Members → Checked Members
table_in None = fails NotToml (codes "-")
table_in (Some fields) = Ok fields

-- the top-level table of the document that the bytes are
abbrev pub document : List ℕ → Checked Members
document bytes = if is_utf8 bytes then table_in (parse_document bytes) else fails NotToml (codes "-")
