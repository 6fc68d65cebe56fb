-- An expression without where its parts lie in memory.
use Rattle.guards_model.specs.Expressions.{Expression, number, cycle_number, input, block_word, negative, binary, call, pick}
use Rattle.expr_core.specs.declared.expr.Expr.{Expr, fold-Expr}
use Rattle.expr_core.specs.declared.expr.Expr.TheOpen.{Expr-F}

-- one node, whose parts are trees already
abbrev pub node : Expr-F Expression → Expression
node (Expr-F.Number z) = number z
node Expr-F.Cycle = cycle_number
node (Expr-F.Input k) = input k
node (Expr-F.Word i j) = block_word i j
node (Expr-F.Neg a) = negative a
node (Expr-F.Binary op a b) = binary op a b
node (Expr-F.Native code a b c) = call code a b c
node (Expr-F.Pick a b c) = pick a b c

abbrev pub tree : Expr → Expression
tree e = fold-Expr Expression node e
