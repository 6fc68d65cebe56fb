-- The texts of expressions, for contexts of so many blocks and so many input words.
use Rattle.std.specs.Prelude.{ℕ, List, length, Result, Ok, Err}
use Rattle.toml.specs.Data.{Data}
use Rattle.guards_model.specs.Expressions.{Expression}
use Rattle.expr_text.specs.declared.fault.ExprFault.{ExprFault}
use Rattle.expr_text.specs.declared.fault.ExprFault.TheVariants.{TooLong, Grammar, TooLarge, Memory}
use Rattle.expr_text.specs.Parsed.{parsed}
use Rattle.document_checks.specs.declared.why.Cause.TheVariants.{BadExpr}
use Rattle.document_checks.specs.Checks.{Checked, ◌>>=◌, fails_at_place, text_of}

-- the place in a text of so many bytes that is named for a fault: where a text in the grammar could not go on, or how
-- much of it may stand. Parsing as a function never answers want of memory.
abbrev pub place_of_fault : ℕ → ExprFault → ℕ
place_of_fault count TooLong = 1100
place_of_fault count (Grammar at) = at
place_of_fault count (TooLarge nodes depth) = count
place_of_fault count Memory = 0

abbrev pub expression_or : ℕ → List ℕ → Result Expression ExprFault → Checked Expression
expression_or count path (Ok e) = Ok e
expression_or count path (Err fault) = fails_at_place BadExpr path (place_of_fault count fault)

abbrev pub text_expression : ℕ → ℕ → List ℕ → List ℕ → Checked Expression
text_expression blocks width path text =
    expression_or (length text) path (parsed (record { blocks = blocks; width = width }) text)

unfoldable pub expression_at : ℕ → ℕ → List ℕ → Data → Checked Expression
expression_at blocks width path value = do
  text ← text_of path value
  text_expression blocks width path text
