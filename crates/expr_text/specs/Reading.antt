-- Reading a text byte by byte: a state for what was read so far, and how a byte changes it.
use Rattle.std.specs.Prelude.{ℕ, zero, suc, ◌+◌, ◌-◌, ◌*◌, ◌^◌, pos, List, [], ◌∷◌, Option, Some, None, nat_lt, nat_eq, if◌then◌else◌}
use Rattle.guards_model.specs.declared.Code.TheVariants.{Sat, Mid, Ramp}
use Rattle.guards_model.specs.declared.Op.{Op}
use Rattle.guards_model.specs.declared.Op.TheVariants.{Add, Sub, Mul, Div, Rem}
use Rattle.guards_model.specs.Expressions.{Expression, number, cycle_number, input, block_word, negative, binary}
use Rattle.expr_text.specs.declared.state.Sizes.{Sizes}
use Rattle.expr_text.specs.declared.word.Function.{Function}
use Rattle.expr_text.specs.declared.word.Function.TheVariants as called
use Rattle.expr_text.specs.declared.word.Keyword.{Keyword}
use Rattle.expr_text.specs.declared.word.Keyword.TheVariants as keyword
use Rattle.expr_text.specs.declared.word.Kind.{Kind}
use Rattle.expr_text.specs.declared.word.Kind.TheVariants.{Space, Sign, Open, Close, Comma, Dot, Digit, Letter, Other}
use Rattle.expr_text.specs.Grammar.{called_with}
use Rattle.expr_text.specs.Names.{other_letters}

-- An expression and the sign behind it: what comes behind the sign is its other part.
abbrev pub Pending : Type 0
Pending = Option (Expression × Op)

-- What stands before an operand, from the last parenthesis on: the first part of a sum, the first part
-- of a product, and minus signs.
pub record Level : Type 0 where
  pub sum : Pending
  pub product : Pending
  pub minuses : ℕ

-- What an open parenthesis belongs to, with the arguments before.
pub data Opening : Type 0 where
  Group : Opening
  First : (f : Function) → Opening
  Second : (f : Function) (a : Expression) → Opening
  Third : (f : Function) (a b : Expression) → Opening

-- an open parenthesis, and what stands before the operand that it begins
pub record Frame : Type 0 where
  pub opening : Opening
  pub level : Level

-- how far an operand was read
pub data Lexeme : Type 0 where
  Start : Lexeme
  Digits : (n : ℕ) → Lexeme
  Letters : (k : Keyword) (next : ℕ) (rest : List ℕ) → Lexeme
  InputDigit : Lexeme
  BlockStart : Lexeme
  BlockDigits : (n : ℕ) → Lexeme
  WordDigit : (n : ℕ) → Lexeme
  Parenthesis : (f : Function) → Lexeme

-- The open parentheses, the last one first, and then an operand that is not read to its end, or an
-- operand that is, with the first part of its sum.
pub data State : Type 0 where
  Operand : (frames : List Frame) (level : Level) (lexeme : Lexeme) → State
  Operator : (frames : List Frame) (sum : Pending) (product : Expression) → State

abbrev pub fresh : Level
fresh = record { sum = None; product = None; minuses = 0 }

abbrev pub initial : State
initial = Operand [] fresh Start

abbrev pub joined : Pending → Expression → Expression
joined None right = right
joined (Some left) right = binary left.1 left.0 right

abbrev pub negated : ℕ → Expression → Expression
negated zero e = e
negated (suc n) e = negated n (negative e)

-- the product so far, once its last factor's atom is read
abbrev pub factored : Level → Expression → Expression
factored level e = joined level.product (negated level.minuses e)

abbrev pub completed : List Frame → Level → Expression → State
completed frames level e = Operator frames level.sum (factored level e)

-- what the bytes of a name lead to
abbrev pub named : List Frame → Level → Keyword → State
named frames level keyword.Cycle = completed frames level cycle_number
named frames level keyword.Input = Operand frames level InputDigit
named frames level keyword.Block = Operand frames level BlockStart
named frames level (keyword.Call f) = Operand frames level (Parenthesis f)

abbrev pub keyword_spelled : List Frame → Level → Keyword → List ℕ → State
keyword_spelled frames level k [] = named frames level k
keyword_spelled frames level k (next ∷ rest) = Operand frames level (Letters k next rest)

-- The keyword with this first letter. Where there is no input word, or no block, none is named.
abbrev pub keyword_at : Sizes → ℕ → Option Keyword
keyword_at sizes letter =
    if nat_eq letter 99 then Some keyword.Cycle
    else (if nat_eq letter 105 then (if nat_lt 0 sizes.width then Some keyword.Input else None)
    else (if nat_eq letter 98 then (if nat_lt 0 sizes.blocks then Some keyword.Block else None)
    else (if nat_eq letter 115 then Some (keyword.Call (called.Native Sat))
    else (if nat_eq letter 109 then Some (keyword.Call (called.Native Mid))
    else (if nat_eq letter 114 then Some (keyword.Call (called.Native Ramp))
    else (if nat_eq letter 112 then Some (keyword.Call called.Pick) else None))))))

abbrev pub begun : List Frame → Level → Option Keyword → Option State
begun frames level None = None
begun frames level (Some k) = Some (keyword_spelled frames level k (other_letters k))

-- one more digit of a number below the limit, which has no leading zero
abbrev pub with_digit : ℕ → ℕ → ℕ → Option ℕ
with_digit limit zero d = None
with_digit limit (suc n) d = if nat_lt (suc n * 10 + d) limit then Some (suc n * 10 + d) else None

abbrev pub with_number : (ℕ → State) → Option ℕ → Option State
with_number go None = None
with_number go (Some n) = Some (go n)

abbrev pub opened : List Frame → Level → Opening → State
opened frames level opening = Operand (record { opening = opening; level = level } ∷ frames) fresh Start

-- at the start of an operand
abbrev pub at_start : Sizes → List Frame → Level → Kind → Option State
at_start sizes frames level Space = Some (Operand frames level Start)
at_start sizes frames level (Sign Sub) =
    Some (Operand frames (record { sum = level.sum; product = level.product; minuses = suc level.minuses }) Start)
at_start sizes frames level Open = Some (opened frames level Group)
at_start sizes frames level (Digit d) = Some (Operand frames level (Digits d))
at_start sizes frames level (Letter x) = begun frames level (keyword_at sizes x)
at_start sizes frames level _ = None

abbrev pub signed : List Frame → Pending → Expression → Op → State
signed frames sum product Add =
    Operand frames (record { sum = Some (joined sum product, Add); product = None; minuses = 0 }) Start
signed frames sum product Sub =
    Operand frames (record { sum = Some (joined sum product, Sub); product = None; minuses = 0 }) Start
signed frames sum product Mul = Operand frames (record { sum = sum; product = Some (product, Mul); minuses = 0 }) Start
signed frames sum product Div = Operand frames (record { sum = sum; product = Some (product, Div); minuses = 0 }) Start
signed frames sum product Rem = Operand frames (record { sum = sum; product = Some (product, Rem); minuses = 0 }) Start

abbrev pub closed_at : List Frame → Level → Opening → Expression → Option State
closed_at frames level Group e = Some (completed frames level e)
closed_at frames level (First f) e = None
closed_at frames level (Second f a) e = None
closed_at frames level (Third f a b) e = Some (completed frames level (called_with f a b e))

abbrev pub closed : List Frame → Expression → Option State
closed [] e = None
closed (frame ∷ frames) e = closed_at frames frame.level frame.opening e

abbrev pub next_at : List Frame → Level → Opening → Expression → Option State
next_at frames level Group e = None
next_at frames level (First f) e = Some (opened frames level (Second f e))
next_at frames level (Second f a) e = Some (opened frames level (Third f a e))
next_at frames level (Third f a b) e = None

abbrev pub next_argument : List Frame → Expression → Option State
next_argument [] e = None
next_argument (frame ∷ frames) e = next_at frames frame.level frame.opening e

-- behind an operand
abbrev pub at_end : List Frame → Pending → Expression → Kind → Option State
at_end frames sum product Space = Some (Operator frames sum product)
at_end frames sum product (Sign op) = Some (signed frames sum product op)
at_end frames sum product Close = closed frames (joined sum product)
at_end frames sum product Comma = next_argument frames (joined sum product)
at_end frames sum product _ = None

abbrev pub in_digits : List Frame → Level → ℕ → Kind → Option State
in_digits frames level n (Digit d) = with_number (λ m. Operand frames level (Digits m)) (with_digit (2 ^ 63) n d)
in_digits frames level n byte_kind = at_end frames level.sum (factored level (number (pos n))) byte_kind

abbrev pub in_letters : List Frame → Level → Keyword → ℕ → List ℕ → Kind → Option State
in_letters frames level k next rest (Letter x) =
    if nat_eq x next then Some (keyword_spelled frames level k rest) else None
in_letters frames level k next rest _ = None

abbrev pub in_input : Sizes → List Frame → Level → Kind → Option State
in_input sizes frames level (Digit d) = if nat_lt d sizes.width then Some (completed frames level (input d)) else None
in_input sizes frames level _ = None

abbrev pub at_block : Sizes → List Frame → Level → Kind → Option State
at_block sizes frames level (Digit d) =
    if nat_lt d sizes.blocks then Some (Operand frames level (BlockDigits d)) else None
at_block sizes frames level _ = None

abbrev pub in_block : Sizes → List Frame → Level → ℕ → Kind → Option State
in_block sizes frames level n (Digit d) =
    with_number (λ m. Operand frames level (BlockDigits m)) (with_digit sizes.blocks n d)
in_block sizes frames level n Dot = Some (Operand frames level (WordDigit n))
in_block sizes frames level n _ = None

abbrev pub in_word : List Frame → Level → ℕ → Kind → Option State
in_word frames level n (Digit d) = if nat_lt d 8 then Some (completed frames level (block_word n d)) else None
in_word frames level n _ = None

abbrev pub at_parenthesis : List Frame → Level → Function → Kind → Option State
at_parenthesis frames level f Space = Some (Operand frames level (Parenthesis f))
at_parenthesis frames level f Open = Some (opened frames level (First f))
at_parenthesis frames level f _ = None

-- the state after one more byte, or none where no text of the grammar goes on with it
abbrev pub after : Sizes → State → Kind → Option State
after sizes (Operand frames level Start) byte_kind = at_start sizes frames level byte_kind
after sizes (Operand frames level (Digits n)) byte_kind = in_digits frames level n byte_kind
after sizes (Operand frames level (Letters k next rest)) byte_kind = in_letters frames level k next rest byte_kind
after sizes (Operand frames level InputDigit) byte_kind = in_input sizes frames level byte_kind
after sizes (Operand frames level BlockStart) byte_kind = at_block sizes frames level byte_kind
after sizes (Operand frames level (BlockDigits n)) byte_kind = in_block sizes frames level n byte_kind
after sizes (Operand frames level (WordDigit n)) byte_kind = in_word frames level n byte_kind
after sizes (Operand frames level (Parenthesis f)) byte_kind = at_parenthesis frames level f byte_kind
after sizes (Operator frames sum product) byte_kind = at_end frames sum product byte_kind

-- what a byte is
abbrev pub byte_kind : ℕ → Kind
byte_kind byte =
    if nat_eq byte 32 then Space
    else (if nat_eq byte 43 then Sign Add
    else (if nat_eq byte 45 then Sign Sub
    else (if nat_eq byte 42 then Sign Mul
    else (if nat_eq byte 47 then Sign Div
    else (if nat_eq byte 37 then Sign Rem
    else (if nat_eq byte 40 then Open
    else (if nat_eq byte 41 then Close
    else (if nat_eq byte 44 then Comma
    else (if nat_eq byte 46 then Dot
    else (if nat_lt byte 48 then Other
    else (if nat_lt byte 58 then Digit (byte - 48)
    else (if nat_lt byte 97 then Other
    else (if nat_lt byte 123 then Letter byte else Other)))))))))))))

-- how many minus signs stand before the operand
abbrev pub minuses_of : State → ℕ
minuses_of (Operand frames level lexeme) = level.minuses
minuses_of (Operator frames sum product) = 0

-- the expression, where the text may end here
abbrev pub finished_in : List Frame → Expression → Option Expression
finished_in [] e = Some e
finished_in (frame ∷ frames) e = None

abbrev pub finished : State → Option Expression
finished (Operator frames sum product) = finished_in frames (joined sum product)
finished (Operand frames level (Digits n)) = finished_in frames (joined level.sum (factored level (number (pos n))))
finished (Operand frames level _) = None

abbrev pub and_then : {A B : Type 0} → (A → Option B) → Option A → Option B
and_then go None = None
and_then go (Some x) = go x

-- the state after these bytes
abbrev pub run : Sizes → List ℕ → State → Option State
run sizes [] state = Some state
run sizes (byte ∷ bytes) state = and_then (run sizes bytes) (after sizes state (byte_kind byte))

-- the expression that these bytes complete
abbrev pub read : Sizes → List ℕ → State → Option Expression
read sizes bytes state = and_then finished (run sizes bytes state)
