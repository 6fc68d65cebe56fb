-- Replacing the words of a block, word by word.
use Rattle.std.proofs.Common.{◌≡◌, ℕ, zero, suc, ◌+◌, ◌<◌, ◌≤◌, ℤ, pos, List, [], ◌∷◌, length, take, get_or, set, Option, Some, None, refl, sym, ap, ◌∙◌, arith}
use Rattle.std.specs.Prelude.{map, option_map, true}
use Rattle.std.specs.List.{list_all}
use Rattle.guards_model.specs.Contexts.{BlockValue, ContextValue}
use Rattle.guards_model.specs.Expressions.{Expression, value_of, fits_sizes, fits_or_none}
use Rattle.guards_model.specs.Tasks.{replaced}
use Rattle.guards_model.proofs.BoolTests.{both}
use Rattle.expr_core.specs.declared.expr.Expr.{Expr}
use Rattle.expr_core.specs.Tree.{tree}

-- the words with the next one replaced, or as they are
abbrev pub set_word : Option Expression → BlockValue → ℕ → ContextValue → List ℤ → ℕ → BlockValue
set_word None words at ctx inputs c = words
set_word (Some e) words at ctx inputs c = set words at (value_of e ctx inputs c)

module _ (ctx : ContextValue) (inputs : List ℤ) (c : ℕ) where
  pub replaced_none : (sets : List (Option Expression)) (old : BlockValue) →
      replaced (take 0 sets) old ctx inputs c ≡ old
  replaced_none sets old = refl

  pub replaced_more : (sets : List (Option Expression)) (old : BlockValue) (at : ℕ) → at < length sets →
      length sets ≤ length old →
      replaced (take (at + 1) sets) old ctx inputs c
      ≡ set_word (get_or sets at None) (replaced (take at sets) old ctx inputs c) at ctx inputs c
  replaced_more sets old at low fits =
      ap (λ n. replaced (take n sets) old ctx inputs c) next ∙ step sets old at low fits
    where
      next : at + 1 ≡ suc at
      next = omega arith

      below : (e : Option Expression) (x : ℤ) (xs : BlockValue) (at : ℕ) →
          x ∷ set_word e xs at ctx inputs c ≡ set_word e (x ∷ xs) (suc at) ctx inputs c
      below None x xs at = refl
      below (Some e) x xs at = refl

      step : (sets : List (Option Expression)) (old : BlockValue) (at : ℕ) → at < length sets →
          length sets ≤ length old →
          replaced (take (suc at) sets) old ctx inputs c
          ≡ set_word (get_or sets at None) (replaced (take at sets) old ctx inputs c) at ctx inputs c
      step [] old at low fits = absurd (omega arith)
      step (e ∷ sets) [] at low fits = absurd (omega arith)
      step (None ∷ sets) (w ∷ old) zero low fits = refl
      step (Some e ∷ sets) (w ∷ old) zero low fits = refl
      step (None ∷ sets) (w ∷ old) (suc at) low fits =
          ap (λ ws. w ∷ ws) (step sets old at (omega (arith, low)) (omega (arith, fits)))
          ∙ below (get_or sets at None) w (replaced (take at sets) old ctx inputs c) at
      step (Some e ∷ sets) (w ∷ old) (suc at) low fits =
          ap (λ ws. value_of e ctx inputs c ∷ ws) (step sets old at (omega (arith, low)) (omega (arith, fits)))
          ∙ below (get_or sets at None) (value_of e ctx inputs c) (replaced (take at sets) old ctx inputs c) at

-- an expression of a set fits
pub expr_fits : (blocks : ℕ) (set : List (Option Expr)) (at : ℕ) (d : Option Expr) (e : Expr) → at < length set →
    get_or set at d ≡ Some e →
    list_all (fits_or_none blocks 4) (map (option_map tree) set) ≡ true → fits_sizes blocks 4 (tree e) ≡ true
expr_fits blocks [] at d e low h all = absurd (omega arith)
expr_fits blocks (o ∷ set) zero d e low h all =
    ap (λ o. fits_or_none blocks 4 (option_map tree o)) (sym h)
    ∙ (both (fits_or_none blocks 4 (option_map tree o))
    (list_all (fits_or_none blocks 4) (map (option_map tree) set)) all).0
expr_fits blocks (o ∷ set) (suc at) d e low h all =
    expr_fits blocks set at d e (omega (arith, low)) h
    (both (fits_or_none blocks 4 (option_map tree o)) (list_all (fits_or_none blocks 4) (map (option_map tree) set))
    all).1

-- the tree at a place of a set
pub tree_at : (set : List (Option Expr)) (at : ℕ) (d : Option Expr) → at < length set →
    get_or (map (option_map tree) set) at None ≡ option_map tree (get_or set at d)
tree_at [] at d low = absurd (omega arith)
tree_at (o ∷ set) zero d low = refl
tree_at (o ∷ set) (suc at) d low = tree_at set at d (omega (arith, low))

pub taken_all : {A : Type 0} (xs : List A) (n : ℕ) → length xs ≤ n → take n xs ≡ xs
taken_all [] zero h = refl
taken_all [] (suc n) h = refl
taken_all (x ∷ xs) zero h = absurd (omega arith)
taken_all (x ∷ xs) (suc n) h = ap (λ ys. x ∷ ys) (taken_all xs n (omega (arith, h)))
