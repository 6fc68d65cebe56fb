-- An expression has at most as many nodes as its text has bytes, and a state at most as many minus signs as were read.
use Rattle.std.proofs.Common.{◌≡◌, ℕ, suc, ◌+◌, ◌^◌, ◌≤◌, List, [], ◌∷◌, length, Option, Some, None, refl, ap, ◌∙◌, arith, pos, length-append, nat_lt, nat_eq}
use Rattle.std.proofs.lemmas.Fmt.{decimal_nonempty}
use Rattle.guards_model.specs.declared.Op.TheVariants.{Add, Sub, Mul, Div, Rem}
use Rattle.guards_model.specs.Expressions.{Expression, number}
use Rattle.expr_core.specs.Size.{node_count}
use Rattle.expr_text.specs.declared.state.Sizes.{Sizes}
use Rattle.expr_text.specs.declared.word.Function.{Function}
use Rattle.expr_text.specs.declared.word.Function.TheVariants as called
use Rattle.expr_text.specs.declared.word.Keyword.{Keyword}
use Rattle.expr_text.specs.declared.word.Keyword.TheVariants as keyword
use Rattle.expr_text.specs.declared.word.Kind.{Kind}
use Rattle.expr_text.specs.declared.word.Kind.TheVariants.{Space, Sign, Open, Close, Comma, Dot, Digit, Letter, Other}
use Rattle.expr_text.specs.Grammar.{Sum, product, sum_and, Product, factor, product_and, Factor, atom, minus, Atom, number_token, cycle_token, input_token, word_token, group, call_form, spaces, sum_text, product_text, factor_text, atom_text, sum_tree, product_tree, factor_tree, atom_tree, called_with, SumIn, ProductIn, FactorIn, AtomIn, SpellsExpression}
use Rattle.expr_text.specs.Names.{other_letters}
use Rattle.expr_text.specs.Reading.{Pending, Level, Frame, Opening, State, Operand, Operator, Start, Digits, Letters, InputDigit, BlockStart, BlockDigits, WordDigit, Parenthesis, Group, First, Second, Third, factored, joined, keyword_spelled, keyword_at, begun, at_start, at_end, closed, closed_at, next_at, next_argument, after, byte_kind, run, and_then, minuses_of}
use Rattle.expr_text.proofs.Bytes.{cond_by}
use Rattle.expr_text.proofs.Sound.{with_number_by}

module _ (sizes : Sizes) (few_blocks : sizes.blocks ≤ 256) where
  called_nodes : (f : Function) (a b c : Expression) →
      node_count (called_with f a b c) ≡ node_count a + node_count b + node_count c + 1
  called_nodes (called.Native code) a b c = refl
  called_nodes called.Pick a b c = refl

  mutual
    sum_nodes : (s : Sum) → SumIn sizes s → node_count (sum_tree s) ≤ length (sum_text s)
    sum_nodes (product p) h = product_nodes p h
    sum_nodes (sum_and s gap op p) h = simp length-append (omega (arith, sum_nodes s h.0, product_nodes p h.2))

    product_nodes : (p : Product) → ProductIn sizes p → node_count (product_tree p) ≤ length (product_text p)
    product_nodes (factor f) h = factor_nodes f h
    product_nodes (product_and p gap op f) h =
        simp length-append (omega (arith, product_nodes p h.0, factor_nodes f h.2))

    factor_nodes : (f : Factor) → FactorIn sizes f → node_count (factor_tree f) ≤ length (factor_text f)
    factor_nodes (atom a) h = atom_nodes a h
    factor_nodes (minus gap f) h = simp length-append (omega (arith, factor_nodes f h))

    atom_nodes : (a : Atom) → AtomIn sizes a → node_count (atom_tree a) ≤ length (atom_text a)
    atom_nodes (number_token gap n) h = let some = decimal_nonempty n (omega arith) in simp length-append (omega arith)
    atom_nodes (cycle_token gap) h = simp length-append (omega arith)
    atom_nodes (input_token gap place) h = simp length-append (omega arith)
    atom_nodes (word_token gap block place) h = simp length-append (omega arith)
    atom_nodes (group gap s end_gap) h = simp length-append (omega (arith, sum_nodes s h))
    atom_nodes (call_form gap f open_gap a first_gap b second_gap c end_gap) h =
        simp (length-append, called_nodes) (omega (arith, sum_nodes a h.0, sum_nodes b h.1, sum_nodes c h.2))

  pub nodes_within : (text : List ℕ) (e : Expression) → SpellsExpression sizes text e → node_count e ≤ length text
  nodes_within text e h =
      let all : length text ≡ length (sum_text h.sum) + length (spaces h.end_gap) =
      ap length h.text_is ∙ length-append (sum_text h.sum) (spaces h.end_gap) in
      let same : node_count (sum_tree h.sum) ≡ node_count e = ap node_count h.tree_is in
      omega (arith, sum_nodes h.sum h.valid)

  -- ---- minus signs

  abbrev pub Within : ℕ → Option State → Type 0
  Within n None = Unit {0}
  Within n (Some s) = minuses_of s ≤ n

  spelled_minuses : (frames : List Frame) (level : Level) (k : Keyword) (rest : List ℕ) (n : ℕ) → level.minuses ≤ n →
      minuses_of (keyword_spelled frames level k rest) ≤ n
  spelled_minuses frames level keyword.Cycle [] n h = omega arith
  spelled_minuses frames level keyword.Input [] n h = h
  spelled_minuses frames level keyword.Block [] n h = h
  spelled_minuses frames level (keyword.Call f) [] n h = h
  spelled_minuses frames level k (next ∷ rest) n h = h

  closed_minuses : (frames : List Frame) (e : Expression) (n : ℕ) → Within n (closed frames e)
  closed_minuses [] e n = tt
  closed_minuses (frame ∷ frames) e n = go frame.opening
    where
      go : (opening : Opening) → Within n (closed_at frames frame.level opening e)
      go Group = omega arith
      go (First f) = tt
      go (Second f a) = tt
      go (Third f a b) = omega arith

  next_minuses : (frames : List Frame) (e : Expression) (n : ℕ) → Within n (next_argument frames e)
  next_minuses [] e n = tt
  next_minuses (frame ∷ frames) e n = go frame.opening
    where
      go : (opening : Opening) → Within n (next_at frames frame.level opening e)
      go Group = tt
      go (First f) = omega arith
      go (Second f a) = omega arith
      go (Third f a b) = tt

  at_end_minuses : (frames : List Frame) (sum : Pending) (made : Expression) (k : Kind) (n : ℕ) →
      Within n (at_end frames sum made k)
  at_end_minuses frames sum made Space n = omega arith
  at_end_minuses frames sum made (Sign Add) n = omega arith
  at_end_minuses frames sum made (Sign Sub) n = omega arith
  at_end_minuses frames sum made (Sign Mul) n = omega arith
  at_end_minuses frames sum made (Sign Div) n = omega arith
  at_end_minuses frames sum made (Sign Rem) n = omega arith
  at_end_minuses frames sum made Close n = closed_minuses frames (joined sum made) n
  at_end_minuses frames sum made Comma n = next_minuses frames (joined sum made) n
  at_end_minuses frames sum made Open n = tt
  at_end_minuses frames sum made Dot n = tt
  at_end_minuses frames sum made (Digit d) n = tt
  at_end_minuses frames sum made (Letter x) n = tt
  at_end_minuses frames sum made Other n = tt

  at_start_minuses : (frames : List Frame) (level : Level) (k : Kind) →
      Within (suc level.minuses) (at_start sizes frames level k)
  at_start_minuses frames level Space = omega arith
  at_start_minuses frames level (Sign Sub) = omega arith
  at_start_minuses frames level (Sign Add) = tt
  at_start_minuses frames level (Sign Mul) = tt
  at_start_minuses frames level (Sign Div) = tt
  at_start_minuses frames level (Sign Rem) = tt
  at_start_minuses frames level Open = omega arith
  at_start_minuses frames level Close = tt
  at_start_minuses frames level Comma = tt
  at_start_minuses frames level Dot = tt
  at_start_minuses frames level (Digit d) = omega arith
  at_start_minuses frames level Other = tt
  at_start_minuses frames level (Letter x) = go (keyword_at sizes x)
    where
      go : (o : Option Keyword) → Within (suc level.minuses) (begun frames level o)
      go None = tt
      go (Some k) = spelled_minuses frames level k (other_letters k) (suc level.minuses) (omega arith)

  after_minuses : (s : State) (k : Kind) → Within (suc (minuses_of s)) (after sizes s k)
  after_minuses (Operator frames sum made) k = at_end_minuses frames sum made k 1
  after_minuses (Operand frames level Start) k = at_start_minuses frames level k
  after_minuses (Operand frames level (Digits n)) (Digit d) =
      with_number_by (Within (suc level.minuses)) (λ m. Operand frames level (Digits m)) (2 ^ 63) n d tt
      (λ _ _. omega arith)
  after_minuses (Operand frames level (Digits n)) Space =
      at_end_minuses frames level.sum (factored level (number (pos n))) Space (suc level.minuses)
  after_minuses (Operand frames level (Digits n)) (Sign op) =
      at_end_minuses frames level.sum (factored level (number (pos n))) (Sign op) (suc level.minuses)
  after_minuses (Operand frames level (Digits n)) Open = tt
  after_minuses (Operand frames level (Digits n)) Close =
      at_end_minuses frames level.sum (factored level (number (pos n))) Close (suc level.minuses)
  after_minuses (Operand frames level (Digits n)) Comma =
      at_end_minuses frames level.sum (factored level (number (pos n))) Comma (suc level.minuses)
  after_minuses (Operand frames level (Digits n)) Dot = tt
  after_minuses (Operand frames level (Digits n)) (Letter x) = tt
  after_minuses (Operand frames level (Digits n)) Other = tt
  after_minuses (Operand frames level (Letters k next rest)) (Letter x) =
      cond_by (Within (suc level.minuses)) (nat_eq x next) _ _
      (λ _. spelled_minuses frames level k rest (suc level.minuses) (omega arith)) (λ _. tt)
  after_minuses (Operand frames level (Letters k next rest)) _ = tt
  after_minuses (Operand frames level InputDigit) (Digit d) =
      cond_by (Within (suc level.minuses)) (nat_lt d sizes.width) _ _ (λ _. omega arith) (λ _. tt)
  after_minuses (Operand frames level InputDigit) _ = tt
  after_minuses (Operand frames level BlockStart) (Digit d) =
      cond_by (Within (suc level.minuses)) (nat_lt d sizes.blocks) _ _ (λ _. omega arith) (λ _. tt)
  after_minuses (Operand frames level BlockStart) _ = tt
  after_minuses (Operand frames level (BlockDigits n)) (Digit d) =
      with_number_by (Within (suc level.minuses)) (λ m. Operand frames level (BlockDigits m)) sizes.blocks n d tt
      (λ _ _. omega arith)
  after_minuses (Operand frames level (BlockDigits n)) Dot = omega arith
  after_minuses (Operand frames level (BlockDigits n)) _ = tt
  after_minuses (Operand frames level (WordDigit n)) (Digit d) =
      cond_by (Within (suc level.minuses)) (nat_lt d 8) _ _ (λ _. omega arith) (λ _. tt)
  after_minuses (Operand frames level (WordDigit n)) _ = tt
  after_minuses (Operand frames level (Parenthesis f)) Space = omega arith
  after_minuses (Operand frames level (Parenthesis f)) Open = omega arith
  after_minuses (Operand frames level (Parenthesis f)) _ = tt

  wider : (m n : ℕ) (o : Option State) → m ≤ n → Within m o → Within n o
  wider m n None h w = tt
  wider m n (Some s) h w = omega (arith, w)

  pub run_minuses : (bytes : List ℕ) (s : State) → Within (minuses_of s + length bytes) (run sizes bytes s)
  run_minuses [] s = omega arith
  run_minuses (byte ∷ bytes) s =
      go (run_minuses bytes) (after sizes s (byte_kind byte)) (after_minuses s (byte_kind byte))
    where
      go : ((t : State) → Within (minuses_of t + length bytes) (run sizes bytes t)) → (o : Option State) →
          Within (suc (minuses_of s)) o → Within (minuses_of s + length (byte ∷ bytes)) (and_then (run sizes bytes) o)
      go ih None w = tt
      go ih (Some t) w = wider (minuses_of t + length bytes) (minuses_of s + length (byte ∷ bytes)) (run sizes bytes t)
          (omega arith) (ih t)
