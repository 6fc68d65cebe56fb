-- What parsing a text answers, as a function of the text.
use Rattle.std.specs.Prelude.{◌≡◌, ℕ, ◌+◌, ◌⊎◌, ◌&&◌, nat_lt, nat_le, List, [], ◌∷◌, length, Option, Some, None, Result, Ok, Err, if◌then◌else◌}
use Rattle.guards_model.specs.Expressions.{Expression}
use Rattle.expr_core.specs.Size.{node_count, tree_depth}
use Rattle.expr_core.specs.declared.expr.Expr.{Expr}
use Rattle.expr_core.specs.Tree.{tree}
use Rattle.expr_text.specs.declared.fault.ExprFault.{ExprFault}
use Rattle.expr_text.specs.declared.fault.ExprFault.TheVariants.{TooLong, Grammar, TooLarge, Memory}
use Rattle.expr_text.specs.declared.state.Sizes.{Sizes}
use Rattle.expr_text.specs.Reading.{State, initial, after, byte_kind, finished}

-- the expression that is complete behind the text
abbrev pub ended : ℕ → Option Expression → Result Expression ExprFault
ended at None = Err (Grammar at)
ended at (Some e) = Ok e

-- what comes of the state behind a byte, if there is one
abbrev pub gone_on : ℕ → (State → Result Expression ExprFault) → Option State → Result Expression ExprFault
gone_on at go None = Err (Grammar at)
gone_on at go (Some state) = go state

-- the expression that these bytes complete, which stand from a place on, or the place where they stop
abbrev pub read_from : Sizes → List ℕ → ℕ → State → Result Expression ExprFault
read_from sizes [] at state = ended at (finished state)
read_from sizes (byte ∷ bytes) at state =
    gone_on at (read_from sizes bytes (at + 1)) (after sizes state (byte_kind byte))

-- an expression has at most 64 nodes and a depth of at most 16
abbrev pub within_size : Result Expression ExprFault → Result Expression ExprFault
within_size (Ok e) = if nat_le (node_count e) 64 && nat_le (tree_depth e) 16 then Ok e
    else Err (TooLarge (node_count e) (tree_depth e))
within_size (Err fault) = Err fault

-- what parsing a text answers: the expression, or why there is none
unfoldable pub parsed : Sizes → List ℕ → Result Expression ExprFault
parsed sizes text = if nat_lt 1100 (length text) then Err TooLong else within_size (read_from sizes text 0 initial)

-- The answer is the one that is expected, or want of memory.
abbrev pub IsAnswerOf : Result Expression ExprFault → Result Expr ExprFault → Type 0
IsAnswerOf expected (Ok e) = expected ≡ Ok (tree e)
IsAnswerOf expected (Err fault) = (fault ≡ Memory) ⊎ (expected ≡ Err fault)
