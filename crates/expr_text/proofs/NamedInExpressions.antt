-- What an expression of the grammar names is there.
use Rattle.std.proofs.Common.{◌≡◌, ℕ, suc, ◌^◌, ◌≤◌, Bool, true, ◌&&◌, List, Result, Ok, Err, refl}
use Rattle.std.specs.Prelude.{nat_lt, pos, negsuc, IsTrue, IfOk}
use Rattle.std.proofs.lemmas.Bool.{le-leb}
use Rattle.guards_model.specs.Expressions.{Expression, number, cycle_number, input, block_word, negative, binary, call, pick, fits_sizes}
use Rattle.guards_model.specs.Words.{is_word}
use Rattle.guards_model.proofs.BoolTests.{and_true}
use Rattle.expr_core.specs.declared.expr.Expr.{Expr}
use Rattle.expr_core.specs.Tree.{tree}
use Rattle.expr_text.specs.declared.fault.ExprFault.{ExprFault}
use Rattle.expr_text.specs.declared.state.Sizes.{Sizes}
use Rattle.expr_text.specs.Parsing.{Parses}
use Rattle.expr_text.proofs.Canonical.{TreeIn, read_in}

module _ (sizes : Sizes) (few_blocks : sizes.blocks ≤ 256) where
  abbrev fits : Expression → Bool
  fits e = fits_sizes sizes.blocks sizes.width e

  pub tree_fits : (e : Expression) → TreeIn sizes few_blocks e → fits_sizes sizes.blocks sizes.width e ≡ true
  unfolding is_word
  tree_fits (number (pos n)) h = le-leb (suc n) (2 ^ 63) h
  tree_fits (number (negsuc n)) h = absurd h
  tree_fits cycle_number h = refl
  tree_fits (input place) h = le-leb (suc place) sizes.width h.1
  tree_fits (block_word block place) h =
      and_true (nat_lt block sizes.blocks) (nat_lt place 8) (le-leb (suc block) sizes.blocks h.0)
      (le-leb (suc place) 8 h.1)
  tree_fits (negative a) h = tree_fits a h
  tree_fits (binary op a b) h = and_true (fits a) (fits b) (tree_fits a h.0) (tree_fits b h.1)
  tree_fits (call code a b c) h =
      and_true (fits a && fits b) (fits c) (and_true (fits a) (fits b) (tree_fits a h.0) (tree_fits b h.1))
      (tree_fits c h.2)
  tree_fits (pick a b c) h =
      and_true (fits a && fits b) (fits c) (and_true (fits a) (fits b) (tree_fits a h.0) (tree_fits b h.1))
      (tree_fits c h.2)

  pub answer_fits : (text : List ℕ) (r : Result Expr ExprFault) → Parses sizes text r →
      IfOk r (λ e. IsTrue (fits_sizes sizes.blocks sizes.width (tree e)))
  answer_fits text (Ok e) h = tree_fits (tree e) (read_in sizes few_blocks text (tree e) h.spelled)
  answer_fits text (Err fault) h = tt
