-- The one text that an expression is printed as.
use Rattle.std.specs.Prelude.{ℕ, ◌≤◌, List, [], ◌∷◌, ◌++◌, codes}
use Rattle.std.specs.Fmt.{decimal, signed_decimal}
use Rattle.guards_model.specs.declared.Op.{Op}
use Rattle.guards_model.specs.Expressions.{Expression, number, cycle_number, input, block_word, negative, binary, call, pick}
use Rattle.expr_text.specs.declared.state.Sizes.{Sizes}
use Rattle.expr_text.specs.declared.word.Function.{Function}
use Rattle.expr_text.specs.declared.word.Function.TheVariants as called
use Rattle.expr_text.specs.Grammar.{sign, letters}
use Rattle.expr_text.specs.Parsing.{IsRead}

abbrev pub sign_text : Op → List ℕ
sign_text op = sign op ∷ []

-- a name, and three texts in parentheses
abbrev pub call_text : Function → List ℕ → List ℕ → List ℕ → List ℕ
call_text f a b c = letters f ++ 40 ∷ (a ++ 44 ∷ 32 ∷ (b ++ 44 ∷ 32 ∷ (c ++ 41 ∷ [])))

-- `(a + b)`, with one space on each side of the sign
abbrev pub canonical : Expression → List ℕ
canonical (number n) = signed_decimal n
canonical cycle_number = codes "cycle"
canonical (input place) = codes "in" ++ decimal place
canonical (block_word block place) = codes "b" ++ (decimal block ++ 46 ∷ decimal place)
canonical (negative a) = 45 ∷ canonical a
canonical (binary op a b) = 40 ∷ (canonical a ++ 32 ∷ sign op ∷ 32 ∷ (canonical b ++ 41 ∷ []))
canonical (call code a b c) = call_text (called.Native code) (canonical a) (canonical b) (canonical c)
canonical (pick a b c) = call_text called.Pick (canonical a) (canonical b) (canonical c)

-- Over these sizes, some text is read as the expression.
abbrev pub CanBeRead : Sizes → Expression → Type 0
CanBeRead sizes e = (sizes.blocks ≤ 256) × (text : List ℕ) × IsRead sizes text e
