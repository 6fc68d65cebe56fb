-- The text of expressions: each text of the grammar, by the productions that make it.
use Rattle.std.specs.Prelude.{◌≡◌, ℕ, zero, suc, ◌+◌, ◌^◌, ◌<◌, ◌≤◌, pos, List, [], ◌∷◌, ◌++◌, length, take, codes}
use Rattle.std.specs.Fmt.{decimal}
use Rattle.guards_model.specs.declared.Code.TheVariants.{Sat, Mid, Ramp}
use Rattle.guards_model.specs.declared.Op.{Op}
use Rattle.guards_model.specs.declared.Op.TheVariants.{Add, Sub, Mul, Div, Rem}
use Rattle.guards_model.specs.Expressions.{Expression, number, cycle_number, input, block_word, negative, binary, call, pick}
use Rattle.expr_text.specs.declared.state.Sizes.{Sizes}
use Rattle.expr_text.specs.declared.word.Function.{Function}
use Rattle.expr_text.specs.declared.word.Function.TheVariants as called

-- A sum and a product group from the left. Before each token stands a number of spaces.
mutual
  pub data Sum : Type 0 where
    product : (p : Product) → Sum
    sum_and : (s : Sum) (gap : ℕ) (op : Op) (p : Product) → Sum

  pub data Product : Type 0 where
    factor : (f : Factor) → Product
    product_and : (p : Product) (gap : ℕ) (op : Op) (f : Factor) → Product

  pub data Factor : Type 0 where
    atom : (a : Atom) → Factor
    minus : (gap : ℕ) (f : Factor) → Factor

  pub data Atom : Type 0 where
    number_token : (gap n : ℕ) → Atom
    cycle_token : (gap : ℕ) → Atom
    input_token : (gap place : ℕ) → Atom
    word_token : (gap block place : ℕ) → Atom
    group : (gap : ℕ) (s : Sum) (end_gap : ℕ) → Atom
    call_form : (gap : ℕ) (f : Function) (open_gap : ℕ) (a : Sum) (first_gap : ℕ) (b : Sum) (second_gap : ℕ) (c : Sum)
        (end_gap : ℕ) → Atom

abbrev pub spaces : ℕ → List ℕ
spaces zero = []
spaces (suc n) = 32 ∷ spaces n

abbrev pub sign : Op → ℕ
sign Add = 43
sign Sub = 45
sign Mul = 42
sign Div = 47
sign Rem = 37

abbrev pub letters : Function → List ℕ
letters (called.Native Sat) = codes "sat"
letters (called.Native Mid) = codes "mid"
letters (called.Native Ramp) = codes "ramp"
letters called.Pick = codes "pick"

-- A number and the number of a block are decimal digits with no leading zero.
abbrev mutual
  pub sum_text : Sum → List ℕ
  sum_text (product p) = product_text p
  sum_text (sum_and s gap op p) = sum_text s ++ (spaces gap ++ sign op ∷ product_text p)

  pub product_text : Product → List ℕ
  product_text (factor f) = factor_text f
  product_text (product_and p gap op f) = product_text p ++ (spaces gap ++ sign op ∷ factor_text f)

  pub factor_text : Factor → List ℕ
  factor_text (atom a) = atom_text a
  factor_text (minus gap f) = spaces gap ++ 45 ∷ factor_text f

  pub atom_text : Atom → List ℕ
  atom_text (number_token gap n) = spaces gap ++ decimal n
  atom_text (cycle_token gap) = spaces gap ++ codes "cycle"
  atom_text (input_token gap place) = spaces gap ++ (codes "in" ++ (48 + place) ∷ [])
  atom_text (word_token gap block place) = spaces gap ++ (codes "b" ++ (decimal block ++ 46 ∷ (48 + place) ∷ []))
  atom_text (group gap s end_gap) = spaces gap ++ 40 ∷ (sum_text s ++ (spaces end_gap ++ 41 ∷ []))
  atom_text (call_form gap f open_gap a first_gap b second_gap c end_gap) =
      spaces gap ++ (letters f ++ (spaces open_gap ++ 40 ∷
      (sum_text a ++ (spaces first_gap ++ 44
      ∷ (sum_text b ++ (spaces second_gap ++ 44 ∷ (sum_text c ++ (spaces end_gap ++ 41 ∷ []))))))))

abbrev pub called_with : Function → Expression → Expression → Expression → Expression
called_with (called.Native code) a b c = call code a b c
called_with called.Pick a b c = pick a b c

-- the expression that a text stands for
abbrev mutual
  pub sum_tree : Sum → Expression
  sum_tree (product p) = product_tree p
  sum_tree (sum_and s gap op p) = binary op (sum_tree s) (product_tree p)

  pub product_tree : Product → Expression
  product_tree (factor f) = factor_tree f
  product_tree (product_and p gap op f) = binary op (product_tree p) (factor_tree f)

  pub factor_tree : Factor → Expression
  factor_tree (atom a) = atom_tree a
  factor_tree (minus gap f) = negative (factor_tree f)

  pub atom_tree : Atom → Expression
  atom_tree (number_token gap n) = number (pos n)
  atom_tree (cycle_token gap) = cycle_number
  atom_tree (input_token gap place) = input place
  atom_tree (word_token gap block place) = block_word block place
  atom_tree (group gap s end_gap) = sum_tree s
  atom_tree (call_form gap f open_gap a first_gap b second_gap c end_gap) =
      called_with f (sum_tree a) (sum_tree b) (sum_tree c)

abbrev pub IsSumSign : Op → Type 0
IsSumSign Add = Unit {0}
IsSumSign Sub = Unit {0}
IsSumSign Mul = ⊥
IsSumSign Div = ⊥
IsSumSign Rem = ⊥

abbrev pub IsProductSign : Op → Type 0
IsProductSign Add = ⊥
IsProductSign Sub = ⊥
IsProductSign Mul = Unit {0}
IsProductSign Div = Unit {0}
IsProductSign Rem = Unit {0}

-- What the productions alone do not say: which signs a sum and a product have, and that each number
-- is within its bounds.
abbrev mutual
  pub SumIn : Sizes → Sum → Type 0
  SumIn sizes (product p) = ProductIn sizes p
  SumIn sizes (sum_and s gap op p) = SumIn sizes s × IsSumSign op × ProductIn sizes p

  pub ProductIn : Sizes → Product → Type 0
  ProductIn sizes (factor f) = FactorIn sizes f
  ProductIn sizes (product_and p gap op f) = ProductIn sizes p × IsProductSign op × FactorIn sizes f

  pub FactorIn : Sizes → Factor → Type 0
  FactorIn sizes (atom a) = AtomIn sizes a
  FactorIn sizes (minus gap f) = FactorIn sizes f

  pub AtomIn : Sizes → Atom → Type 0
  AtomIn sizes (number_token gap n) = n < 2 ^ 63
  AtomIn sizes (cycle_token gap) = Unit {0}
  AtomIn sizes (input_token gap place) = (place < 10) × (place < sizes.width)
  AtomIn sizes (word_token gap block place) = (block < sizes.blocks) × (place < 8)
  AtomIn sizes (group gap s end_gap) = SumIn sizes s
  AtomIn sizes (call_form gap f open_gap a first_gap b second_gap c end_gap) = SumIn sizes a × SumIn sizes b
      × SumIn sizes c

-- The text stands for the expression: it is a sum, and spaces at its end.
pub record SpellsExpression (sizes : Sizes) (text : List ℕ) (e : Expression) : Type 0 where
  pub sum : Sum
  pub valid : SumIn sizes sum
  pub end_gap : ℕ
  pub text_is : text ≡ sum_text sum ++ spaces end_gap
  pub tree_is : sum_tree sum ≡ e

abbrev pub IsInGrammar : Sizes → List ℕ → Type 0
IsInGrammar sizes text = (e : Expression) × SpellsExpression sizes text e

-- Some text of the grammar begins so.
abbrev pub IsViable : Sizes → List ℕ → Type 0
IsViable sizes front = (rest : List ℕ) × IsInGrammar sizes (front ++ rest)

-- The longest front of the text that some text of the grammar begins with has this length.
pub record IsLongestViable (sizes : Sizes) (text : List ℕ) (at : ℕ) : Type 0 where
  pub within : at ≤ length text
  pub viable : IsViable sizes (take at text)
  pub longest : (n : ℕ) → n ≤ length text → IsViable sizes (take n text) → n ≤ at
