-- The tasks of a document of a mission that stand in no row of its table, and the lines on them. The value of a mission
-- has the tasks of its rows alone, so these lines are told of the document.
use Rattle.std.specs.Prelude.{ℕ, Bool, false, not, List, [], ◌∷◌, codes, Option, Some, None, Ok, Err, if◌then◌else◌}
use Rattle.std.specs.List.{list_any}
use Rattle.std.specs.Str.{bytes_eq}
use Rattle.toml.specs.Data.{Data, string, array, table, Items, no_items, item, Members, as_str, get_member}
use Rattle.document_checks.specs.Checks.{Checked, document}
use Rattle.table_flow.specs.Flow.{lists_from}
use Rattle.lint_lines.specs.declared.line.LintLine.{LintLine}
use Rattle.lint_lines.specs.declared.line.LintLine.TheVariants.{IdleTask}

-- ---- what a document says

-- the values of an array, in their order
abbrev pub values_in : Items → List Data
values_in no_items = []
values_in (item value rest) = value ∷ values_in rest

-- the values of the array that there is, if there is one
abbrev pub array_values : Option Data → List Data
array_values (Some (array items)) = values_in items
array_values _ = []

-- the text that there is, if there is one
abbrev pub text_in : Option Data → Option (List ℕ)
text_in None = None
text_in (Some value) = as_str value

-- the name of a task
abbrev pub name_of : Data → Option (List ℕ)
name_of (table fields) = text_in (get_member (codes "name") fields)
name_of _ = None

-- ---- tasks and rows

abbrev pub is_text : List ℕ → Data → Bool
is_text name (string text) = bytes_eq text name
is_text name _ = false

-- whether a row has the name
abbrev pub row_has : List ℕ → Data → Bool
row_has name (array names) = list_any (is_text name) (values_in names)
row_has name _ = false

-- whether a name is in none of the rows
abbrev pub stands_nowhere : List Data → Option (List ℕ) → Bool
stands_nowhere rows None = false
stands_nowhere rows (Some name) = not (list_any (row_has name) rows)

-- ---- lines

-- the line on a task, by its place, if no row has its name
abbrev pub idle_line : List Data → ℕ → Data → List LintLine
idle_line rows place task = if stands_nowhere rows (name_of task) then IdleTask place ∷ [] else []

-- the lines on the tasks of a document, in their order
unfoldable pub idle_lines : Members → List LintLine
idle_lines fields =
    lists_from (idle_line (array_values (get_member (codes "table") fields))) 0
    (array_values (get_member (codes "task") fields))

abbrev pub lines_if_document : Checked Members → List LintLine
lines_if_document (Ok fields) = idle_lines fields
lines_if_document (Err why) = []

-- the lines on the document that bytes are
abbrev pub document_lines : List ℕ → List LintLine
document_lines bytes = lines_if_document (document bytes)
