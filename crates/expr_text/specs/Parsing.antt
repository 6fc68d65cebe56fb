-- What parsing a text answers.
use Rattle.std.specs.Prelude.{◌≡◌, ℕ, ◌<◌, ◌≤◌, ◌⊎◌, List, length, Some, Result, Ok, Err}
use Rattle.expr_core.specs.declared.expr.Expr.{Expr}
use Rattle.guards_model.specs.Expressions.{Expression}
use Rattle.expr_core.specs.Tree.{tree}
use Rattle.expr_core.specs.Size.{node_count, tree_depth}
use Rattle.expr_text.specs.declared.fault.ExprFault.{ExprFault}
use Rattle.expr_text.specs.declared.fault.ExprFault.TheVariants.{TooLong, Grammar, TooLarge, Memory}
use Rattle.expr_text.specs.declared.state.Sizes.{Sizes}
use Rattle.expr_text.specs.declared.state.State as code
use Rattle.expr_text.specs.Reading.{run, initial}
use Rattle.expr_text.specs.Views.{state_of}
use Rattle.expr_text.specs.Grammar.{SpellsExpression, IsInGrammar, IsLongestViable}

abbrev pub IsSmall : Expression → Type 0
IsSmall e = (node_count e ≤ 64) × (tree_depth e ≤ 16)

abbrev pub IsLarge : Expression → Type 0
IsLarge e = (64 < node_count e) ⊎ (16 < tree_depth e)

-- The text is no longer than a text may be, and is not in the grammar.
pub record IsRefusedAt (sizes : Sizes) (text : List ℕ) (at : ℕ) : Type 0 where
  pub short : length text ≤ 1100
  pub refused : IsInGrammar sizes text → ⊥
  pub place : IsLongestViable sizes text at

-- The text stands for an expression that is too large.
pub record IsTooLarge (sizes : Sizes) (text : List ℕ) (e : Expression) : Type 0 where
  pub short : length text ≤ 1100
  pub spelled : SpellsExpression sizes text e
  pub large : IsLarge e

-- The text stands for an expression that is not.
pub record IsRead (sizes : Sizes) (text : List ℕ) (e : Expression) : Type 0 where
  pub short : length text ≤ 1100
  pub spelled : SpellsExpression sizes text e
  pub small : IsSmall e

-- What each answer says of the text. Want of memory says nothing.
abbrev pub Explains : Sizes → List ℕ → ExprFault → Type 0
Explains sizes text TooLong = 1100 < length text
Explains sizes text (Grammar at) = IsRefusedAt sizes text at
Explains sizes text (TooLarge n d) = (e : Expression) × IsTooLarge sizes text e × (n ≡ node_count e)
    × (d ≡ tree_depth e)
Explains sizes text Memory = Unit {0}

abbrev pub Parses : Sizes → List ℕ → Result Expr ExprFault → Type 0
Parses sizes text (Ok e) = IsRead sizes text (tree e)
Parses sizes text (Err f) = Explains sizes text f

-- The answer is the fault, or want of memory.
abbrev pub IsFault : ExprFault → Result Expr ExprFault → Type 0
IsFault f (Ok e) = ⊥
IsFault f (Err g) = (g ≡ f) ⊎ (g ≡ Memory)

-- The answer is the expression, or want of memory.
abbrev pub IsExpr : Expr → Result Expr ExprFault → Type 0
IsExpr e (Ok x) = x ≡ e
IsExpr e (Err g) = g ≡ Memory

-- Each answer comes wherever what it says holds, unless memory runs out.
pub record IsExact (sizes : Sizes) (text : List ℕ) (answer : Result Expr ExprFault) : Type 0 where
  pub too_long : 1100 < length text → IsFault TooLong answer
  pub grammar : (at : ℕ) → IsRefusedAt sizes text at → IsFault (Grammar at) answer
  pub too_large : (e : Expression) → IsTooLarge sizes text e → IsFault (TooLarge (node_count e) (tree_depth e)) answer
  pub expression : (e : Expr) → IsRead sizes text (tree e) → IsExpr e answer

-- ---- the parts of parsing

-- the state behind the text, or where it stops
abbrev pub Scans : Sizes → List ℕ → Result code.State ExprFault → Type 0
Scans sizes text (Ok s) = run sizes text initial ≡ Some (state_of s)
Scans sizes text (Err TooLong) = ⊥
Scans sizes text (Err (Grammar at)) = IsRefusedAt sizes text at
Scans sizes text (Err (TooLarge n d)) = ⊥
Scans sizes text (Err Memory) = Unit {0}

-- the expression where it is small, and else its size
abbrev pub Measures : Expr → Result Expr ExprFault → Type 0
Measures e (Ok x) = (x ≡ e) × IsSmall (tree e)
Measures e (Err TooLong) = ⊥
Measures e (Err (Grammar at)) = ⊥
Measures e (Err (TooLarge n d)) = IsLarge (tree e) × (n ≡ node_count (tree e)) × (d ≡ tree_depth (tree e))
Measures e (Err Memory) = ⊥
