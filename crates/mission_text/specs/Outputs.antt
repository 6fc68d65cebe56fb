-- The key `outputs`: the words that are put out.
use Rattle.std.specs.Prelude.{ℕ, List, [], codes, Ok}
use Rattle.toml.specs.Data.{Data, Members}
use Rattle.guards_model.specs.Expressions.{Expression, block_word}
use Rattle.document_checks.specs.declared.why.Cause.TheVariants.{OutOfRange}
use Rattle.document_checks.specs.Checks.{Checked, ◌>>=◌, fails, required, sized, each, alone}
use Rattle.mission_text.specs.Expressions.{expression_at}

-- an expression that is a word
abbrev pub word_or : List ℕ → Expression → Checked (ℕ × ℕ)
word_or path (block_word block word) = Ok (block, word)
word_or path _ = fails OutOfRange path

unfoldable pub output_at : ℕ → ℕ → List ℕ → Data → Checked (ℕ × ℕ)
output_at blocks width path value = do
  e ← expression_at blocks width path value
  word_or path e

unfoldable pub outputs_field : ℕ → ℕ → Members → Checked (List (ℕ × ℕ))
outputs_field blocks width fields = do
  given ← required [] (codes "outputs") fields
  items ← sized 1 8 (codes "outputs") given
  each (alone (output_at blocks width)) (codes "outputs") [] items
