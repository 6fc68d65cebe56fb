-- The values of an array, as the code and as a definition see them.
use Rattle.std.proofs.Common.{◌≡◌, ◌||◌, ◌∙◌, ℕ, ◌+◌, Bool, List, [], ◌∷◌, ◌++◌, map, refl, ap}
use Rattle.std.specs.List.{list_any}
use Rattle.toml.specs.Data.{Data}
use Rattle.toml.specs.View.{view, items_view}
use Rattle.toml.specs.declared.value.Value.{Value}
use Rattle.table_flow.specs.Flow.{lists_from}
use Rattle.lint_lines.specs.declared.line.LintLine.{LintLine}
use Rattle.document_lint.specs.IdleTasks.{values_in}

-- a test of the values passes what the code tests
pub any_value : (p : Data → Bool) (values : List Value) →
    list_any (λ value. p (view value)) values ≡ list_any p (values_in (items_view values))
any_value p [] = refl
any_value p (value ∷ values) = ap (λ b. p (view value) || b) (any_value p values)

-- so does what is listed by their places
pub listed_values : (f : ℕ → Data → List LintLine) (place : ℕ) (values : List Value) →
    lists_from (λ k value. f k (view value)) place values ≡ lists_from f place (values_in (items_view values))
listed_values f place [] = refl
listed_values f place (value ∷ values) =
    ap (λ (ls : List LintLine). f place (view value) ++ ls) (listed_values f (place + 1) values)
