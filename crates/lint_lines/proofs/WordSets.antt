-- Flags that stand for sets of words.
use Rattle.std.proofs.Common.{◌≡◌, ◌<◌, ◌≤◌, ◌+◌, ◌∙◌, ℕ, ◌/◌, ◌%◌, Bool, true, not, cond, ◌&&◌, List, [], ◌∷◌, ◌++◌, refl, ap, arith}
use Rattle.std.specs.Prelude.{nat_lt}
use Rattle.std.specs.List.{list_all}
use Rattle.std.proofs.lemmas.Bool.{ltb-true}
use Rattle.guards_model.proofs.BoolTests.{both, and_true}
use Rattle.lint_lines.specs.declared.line.LintLine.{LintLine}
use Rattle.table_flow.specs.Flow.{lists_from, word_number}
use Rattle.guards_model.specs.Contexts.{ContextValue}
use Rattle.lint_lines.specs.declared.line.LintLine.TheVariants.{SilentWord, UnwrittenWord}
use Rattle.lint_lines.specs.WordLines.{is_zero_at, output_line, silent_line, unwritten_line}

abbrev there : ℕ → ℕ × ℕ → Bool
there blocks o = nat_lt o.0 blocks && nat_lt o.1 8

-- outputs are words of a context
pub outputs_low : (blocks : ℕ) (outputs : List (ℕ × ℕ)) → list_all (there blocks) outputs ≡ true →
    list_all (λ (o : ℕ × ℕ). nat_lt o.1 8) outputs ≡ true
outputs_low blocks [] h = refl
outputs_low blocks (o ∷ outputs) h =
    let parts = both (there blocks o) (list_all (there blocks) outputs) h in
    and_true (nat_lt o.1 8) (list_all (λ (p : ℕ × ℕ). nat_lt p.1 8) outputs)
    (both (nat_lt o.0 blocks) (nat_lt o.1 8) parts.0).1 (outputs_low blocks outputs parts.1)

pub outputs_alike : (written passes : ℕ → Bool) (blocks place : ℕ) (outputs : List (ℕ × ℕ)) → blocks ≤ 256 →
    list_all (there blocks) outputs ≡ true →
    ((w : ℕ) → w < 2048 → written w ≡ passes w) →
    lists_from (output_line written) place outputs ≡ lists_from (output_line passes) place outputs
outputs_alike written passes blocks place [] few h same = refl
outputs_alike written passes blocks place (o ∷ outputs) few h same =
    let parts = both (there blocks o) (list_all (there blocks) outputs) h in
    let here = both (nat_lt o.0 blocks) (nat_lt o.1 8) parts.0 in
    let block : o.0 < blocks = ltb-true o.0 blocks here.0 in
    let word : o.1 < 8 = ltb-true o.1 8 here.1 in
    ap (λ (ls : List LintLine). ls ++ lists_from (output_line written) (place + 1) outputs)
    (one (same (word_number o.0 o.1) (omega (arith, block, word, few))))
    ∙ ap (λ (ls : List LintLine). output_line passes place o ++ ls)
    (outputs_alike written passes blocks (place + 1) outputs few parts.1 same)
  where
    one : written (word_number o.0 o.1) ≡ passes (word_number o.0 o.1) →
        output_line written place o ≡ output_line passes place o
    one e = rw e refl

pub silent_alike : (p q p' q' : ℕ → Bool) (w : ℕ) → p w ≡ p' w → q w ≡ q' w → silent_line p q w ≡ silent_line p' q' w
silent_alike p q p' q' w e f =
    ap (λ t. cond (t && not (q w)) (SilentWord (w / 8) (w % 8) ∷ []) []) e
    ∙ ap (λ t. cond (p' w && not t) (SilentWord (w / 8) (w % 8) ∷ []) []) f

pub unwritten_alike : (context : ContextValue) (p q p' q' : ℕ → Bool) (w : ℕ) → p w ≡ p' w → q w ≡ q' w →
    unwritten_line context p q w ≡ unwritten_line context p' q' w
unwritten_alike context p q p' q' w e f =
    ap (λ t. cond ((t && not (q w)) && is_zero_at context w) (UnwrittenWord (w / 8) (w % 8) ∷ []) []) e
    ∙ ap (λ t. cond ((p' w && not t) && is_zero_at context w) (UnwrittenWord (w / 8) (w % 8) ∷ []) []) f
