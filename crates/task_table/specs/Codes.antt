-- Codes of the values of writes, tasks and tables, by which proofs tell them apart.
use Rattle.std.specs.Prelude.{◌≡◌, ℕ, List, Option, refl}
use Rattle.std.specs.Coded.{Coded, code_by, coded×, coded_ℕ, coded_list, coded_option}
use Rattle.std.proofs.Common.{sym, ap, ◌∙◌}
use Rattle.guards_model.specs.declared.Op.{Op}
use Rattle.guards_model.specs.Expressions.{Expression, number, cycle_number, input, block_word, negative, binary, call, pick}
use Rattle.guards_model.specs.Tasks.{WriteValue, TaskValue}
use Rattle.expr_core.specs.contracts.expr.Expr as contracts
use Rattle.expr_core.specs.declared.expr.Expr.{Expr}
use Rattle.expr_core.specs.declared.expr.Expr.TheOpen.{Expr-F}
use Rattle.expr_core.specs.declared.expr.Expr.TheFolds.{fold-roll-Expr}
use Rattle.expr_core.specs.declared.expr.Expr.TheVariants as expr
use Rattle.expr_core.specs.Tree.{node, tree}
use Rattle.expr_core.proofs.Trees.{tree_number, tree_input, tree_word, tree_neg, tree_native, tree_pick}
use Rattle.task_table.specs.Tables.{TableValue}

-- the expression in memory with this tree
abbrev pub expr_of : Expression → Expr
expr_of (number z) = expr.Number z
expr_of cycle_number = expr.Cycle
expr_of (input k) = expr.Input k
expr_of (block_word i j) = expr.Word i j
expr_of (negative a) = expr.Neg (expr_of a)
expr_of (binary op a b) = expr.Binary op (expr_of a) (expr_of b)
expr_of (call code a b c) = expr.Native code (expr_of a) (expr_of b) (expr_of c)
expr_of (pick a b c) = expr.Pick (expr_of a) (expr_of b) (expr_of c)

tree_binary : (op : Op) (a b : Expr) → tree (expr.Binary op a b) ≡ binary op (tree a) (tree b)
tree_binary op a b = ap tree (sym (expr.rolls-Binary op a b)) ∙ fold-roll-Expr Expression node (Expr-F.Binary op a b)

pub tree-expr_of : (e : Expression) → tree (expr_of e) ≡ e
tree-expr_of (number z) = tree_number z
tree-expr_of cycle_number = ap tree (sym expr.rolls-Cycle) ∙ fold-roll-Expr Expression node Expr-F.Cycle
tree-expr_of (input k) = tree_input k
tree-expr_of (block_word i j) = tree_word i j
tree-expr_of (negative a) = tree_neg (expr_of a) ∙ ap negative (tree-expr_of a)
tree-expr_of (binary op a b) =
    tree_binary op (expr_of a) (expr_of b) ∙ ap (λ x. binary op x (tree (expr_of b))) (tree-expr_of a)
    ∙ ap (binary op a) (tree-expr_of b)
tree-expr_of (call code a b c) =
    tree_native code (expr_of a) (expr_of b) (expr_of c)
    ∙ ap (λ x. call code x (tree (expr_of b)) (tree (expr_of c))) (tree-expr_of a)
    ∙ ap (λ x. call code a x (tree (expr_of c))) (tree-expr_of b)
    ∙ ap (call code a b) (tree-expr_of c)
tree-expr_of (pick a b c) =
    tree_pick (expr_of a) (expr_of b) (expr_of c)
    ∙ ap (λ x. pick x (tree (expr_of b)) (tree (expr_of c))) (tree-expr_of a)
    ∙ ap (λ x. pick a x (tree (expr_of c))) (tree-expr_of b)
    ∙ ap (pick a b) (tree-expr_of c)

abbrev pub coded_expression : Coded Expression
coded_expression = code_by Expr contracts.the_row.coded expr_of tree tree-expr_of

abbrev pub coded_sets : Coded (List (Option Expression))
coded_sets = coded_list (coded_option coded_expression)

abbrev pub coded_write : Coded WriteValue
coded_write = code_by (ℕ × List (Option Expression)) (coded× coded_ℕ coded_sets) (λ w. (w.block, w.set))
    (λ p. record { block = p.0; set = p.1 }) (λ _. refl)

abbrev pub coded_task : Coded TaskValue
coded_task = code_by (List ℕ × List WriteValue) (coded× (coded_list coded_ℕ) (coded_list coded_write))
    (λ t. (t.name, t.writes)) (λ p. record { name = p.0; writes = p.1 }) (λ _. refl)

abbrev pub coded_table : Coded TableValue
coded_table =
    code_by (List (List TaskValue) × (ℕ × ℕ)) (coded× (coded_list (coded_list coded_task)) (coded× coded_ℕ coded_ℕ))
    (λ t. (t.rows, (t.blocks, t.width))) (λ p. record { rows = p.0; blocks = p.1.0; width = p.1.1 }) (λ _. refl)
