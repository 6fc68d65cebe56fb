-- The tree of a node, by the trees of its parts; and an expression is told by its tree.
use Rattle.std.proofs.Common.{◌≡◌, ℕ, ℤ, sym, ap, ◌∙◌, subst}
use Rattle.guards_model.specs.declared.Code.{Code}
use Rattle.expr_core.specs.declared.expr.Expr.{Expr, roll-Expr, map-Expr}
use Rattle.expr_core.specs.declared.expr.Expr.TheOpen.{Expr-F}
use Rattle.expr_core.specs.declared.expr.Expr.TheFolds.{fold-roll-Expr, ind-Expr}
use Rattle.expr_core.specs.declared.expr.Expr.TheVariants as expr
use Rattle.guards_model.specs.Expressions.{Expression, number, cycle_number, input, block_word, negative, binary, call, pick}
use Rattle.expr_core.specs.Tree.{node, tree}

pub tree_number : (z : ℤ) → tree (expr.Number z) ≡ number z
tree_number z = ap tree (sym (expr.rolls-Number z)) ∙ fold-roll-Expr Expression node (Expr-F.Number z)

pub tree_input : (k : ℕ) → tree (expr.Input k) ≡ input k
tree_input k = ap tree (sym (expr.rolls-Input k)) ∙ fold-roll-Expr Expression node (Expr-F.Input k)

pub tree_word : (i j : ℕ) → tree (expr.Word i j) ≡ block_word i j
tree_word i j = ap tree (sym (expr.rolls-Word i j)) ∙ fold-roll-Expr Expression node (Expr-F.Word i j)

pub tree_neg : (a : Expr) → tree (expr.Neg a) ≡ negative (tree a)
tree_neg a = ap tree (sym (expr.rolls-Neg a)) ∙ fold-roll-Expr Expression node (Expr-F.Neg a)

pub tree_native : (code : Code) (a b c : Expr) → tree (expr.Native code a b c) ≡ call code (tree a) (tree b) (tree c)
tree_native code a b c = ap tree (sym (expr.rolls-Native code a b c))
    ∙ fold-roll-Expr Expression node (Expr-F.Native code a b c)

pub tree_pick : (a b c : Expr) → tree (expr.Pick a b c) ≡ pick (tree a) (tree b) (tree c)
tree_pick a b c = ap tree (sym (expr.rolls-Pick a b c)) ∙ fold-roll-Expr Expression node (Expr-F.Pick a b c)

-- the expression with a tree
abbrev expr_of : Expression → Expr
expr_of (number n) = expr.Number n
expr_of cycle_number = expr.Cycle
expr_of (input k) = expr.Input k
expr_of (block_word b w) = expr.Word b w
expr_of (negative a) = expr.Neg (expr_of a)
expr_of (binary op a b) = expr.Binary op (expr_of a) (expr_of b)
expr_of (call code a b c) = expr.Native code (expr_of a) (expr_of b) (expr_of c)
expr_of (pick a b c) = expr.Pick (expr_of a) (expr_of b) (expr_of c)

abbrev IsTold : Expr → Type 0
IsTold e = expr_of (tree e) ≡ e

-- a node of which each part is told
told : (H : Type 0) (f : H → Expr) (q : (h : H) → IsTold (f h)) (y : Expr-F H) →
    IsTold (roll-Expr (map-Expr H Expr f y))
told H f q (Expr-F.Number n) = ap expr_of (fold-roll-Expr Expression node (Expr-F.Number n)) ∙ sym (expr.rolls-Number n)
told H f q Expr-F.Cycle = ap expr_of (fold-roll-Expr Expression node Expr-F.Cycle) ∙ sym expr.rolls-Cycle
told H f q (Expr-F.Input k) = ap expr_of (fold-roll-Expr Expression node (Expr-F.Input k)) ∙ sym (expr.rolls-Input k)
told H f q (Expr-F.Word b w) = ap expr_of (fold-roll-Expr Expression node (Expr-F.Word b w)) ∙ sym (expr.rolls-Word b w)
told H f q (Expr-F.Neg a) =
    ap expr_of (fold-roll-Expr Expression node (Expr-F.Neg (f a))) ∙ ap expr.Neg (q a) ∙ sym (expr.rolls-Neg (f a))
told H f q (Expr-F.Binary op a b) =
    ap expr_of (fold-roll-Expr Expression node (Expr-F.Binary op (f a) (f b)))
    ∙ ap (λ x. expr.Binary op x (expr_of (tree (f b)))) (q a) ∙ ap (expr.Binary op (f a)) (q b)
    ∙ sym (expr.rolls-Binary op (f a) (f b))
told H f q (Expr-F.Native code a b c) =
    ap expr_of (fold-roll-Expr Expression node (Expr-F.Native code (f a) (f b) (f c)))
    ∙ ap (λ x. expr.Native code x (expr_of (tree (f b))) (expr_of (tree (f c)))) (q a)
    ∙ ap (λ x. expr.Native code (f a) x (expr_of (tree (f c)))) (q b) ∙ ap (expr.Native code (f a) (f b)) (q c)
    ∙ sym (expr.rolls-Native code (f a) (f b) (f c))
told H f q (Expr-F.Pick a b c) =
    ap expr_of (fold-roll-Expr Expression node (Expr-F.Pick (f a) (f b) (f c)))
    ∙ ap (λ x. expr.Pick x (expr_of (tree (f b))) (expr_of (tree (f c)))) (q a)
    ∙ ap (λ x. expr.Pick (f a) x (expr_of (tree (f c)))) (q b) ∙ ap (expr.Pick (f a) (f b)) (q c)
    ∙ sym (expr.rolls-Pick (f a) (f b) (f c))

is_told : (e : Expr) → IsTold e
is_told = ind-Expr IsTold (λ x y is. subst (λ z. IsTold (roll-Expr z)) is (told _ (λ e. e.0) (λ e. e.1) y))

pub one_expr : (d e : Expr) → tree d ≡ tree e → d ≡ e
one_expr d e h = sym (is_told d) ∙ ap expr_of h ∙ is_told e
