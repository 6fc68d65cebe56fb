-- Each text of the grammar is read, as the expression that it stands for.
use Rattle.std.proofs.Common.{◌≡◌, ℕ, zero, suc, ◌+◌, ◌^◌, ◌<◌, ◌≤◌, List, [], ◌∷◌, ◌++◌, Some, None, refl, sym, ap, ◌∙◌, append_assoc, arith, codes}
use Rattle.std.specs.Fmt.{decimal}
use Rattle.std.proofs.lemmas.Bool.{lt-ltb}
use Rattle.std.proofs.lemmas.List.{append-nil}
use Rattle.guards_model.specs.declared.Code.TheVariants.{Sat, Mid, Ramp}
use Rattle.guards_model.specs.declared.Op.{Op}
use Rattle.guards_model.specs.declared.Op.TheVariants.{Add, Sub, Mul, Div, Rem}
use Rattle.guards_model.specs.Expressions.{Expression, input, block_word, binary}
use Rattle.expr_text.specs.declared.state.Sizes.{Sizes}
use Rattle.expr_text.specs.declared.word.Function.{Function}
use Rattle.expr_text.specs.declared.word.Function.TheVariants as called
use Rattle.expr_text.specs.Grammar.{Sum, product, sum_and, Product, factor, product_and, Factor, atom, minus, Atom, number_token, cycle_token, input_token, word_token, group, call_form, spaces, sign, letters, sum_text, product_text, factor_text, atom_text, sum_tree, product_tree, factor_tree, atom_tree, SumIn, ProductIn, FactorIn, AtomIn, IsSumSign, IsProductSign, SpellsExpression}
use Rattle.expr_text.specs.Reading.{Pending, Level, Frame, State, Operand, Operator, Start, Digits, InputDigit, BlockStart, BlockDigits, WordDigit, Parenthesis, Group, First, Second, Third, fresh, initial, joined, completed, opened, after, run, read, and_then, finished, with_number, with_digit}
use Rattle.expr_text.proofs.Runs.{kind_digit, IsNoDigit, EndsNumber, start_spaces, end_spaces, name_spaces, number_ended, ends_behind, ends_at, ReadsNumber, number_read}

module _ (sizes : Sizes) (few_blocks : sizes.blocks ≤ 256) where
  -- the expression that the rest completes, from this state on
  abbrev Reads : List ℕ → State → List ℕ → State → Type 0
  Reads text s rest t = read sizes (text ++ rest) s ≡ read sizes rest t

  record SumRead (s : Sum) (frames : List Frame) : Type 0 where
    sum : Pending
    product : Expression
    tree_is : joined sum product ≡ sum_tree s
    reads : (rest : List ℕ) → EndsNumber rest →
        Reads (sum_text s) (Operand frames fresh Start) rest (Operator frames sum product)

  number_reads : (frames : List Frame) (level : Level) →
      ReadsNumber sizes (2 ^ 63) (Operand frames level Start) (λ n. Operand frames level (Digits n))
  number_reads frames level = record { first = λ d small lt. refl; more = λ n d. refl }

  block_reads : (frames : List Frame) (level : Level) →
      ReadsNumber sizes sizes.blocks (Operand frames level BlockStart) (λ n. Operand frames level (BlockDigits n))
  block_reads frames level = record { first = λ d small lt. rw (lt-ltb d sizes.blocks lt) refl; more = λ n d. refl }

  -- the name of a function, from its first letter to its parenthesis
  name_read : (f : Function) (rest : List ℕ) (frames : List Frame) (level : Level) →
      run sizes (letters f ++ rest) (Operand frames level Start) ≡ run sizes rest (Operand frames level (Parenthesis f))
  name_read (called.Native Sat) rest frames level = refl
  name_read (called.Native Mid) rest frames level = refl
  name_read (called.Native Ramp) rest frames level = refl
  name_read called.Pick rest frames level = refl

  input_read : (d : ℕ) (rest : List ℕ) (frames : List Frame) (level : Level) → d < 10 → d < sizes.width →
      run sizes (codes "in" ++ (48 + d) ∷ rest) (Operand frames level Start)
      ≡ run sizes rest (completed frames level (input d))
  input_read d rest frames level small lt =
      let some : 0 < sizes.width = omega arith in
      rw (lt-ltb 0 sizes.width some, kind_digit d small, lt-ltb d sizes.width lt) refl

  block_start : (rest : List ℕ) (frames : List Frame) (level : Level) → 0 < sizes.blocks →
      run sizes (98 ∷ rest) (Operand frames level Start) ≡ run sizes rest (Operand frames level BlockStart)
  block_start rest frames level some = rw (lt-ltb 0 sizes.blocks some) refl

  word_end : (n d : ℕ) (rest : List ℕ) (frames : List Frame) (level : Level) → d < 8 →
      run sizes (46 ∷ (48 + d) ∷ rest) (Operand frames level (BlockDigits n))
      ≡ run sizes rest (completed frames level (block_word n d))
  word_end n d rest frames level lt =
      let small : d < 10 = omega arith in
      rw (kind_digit d small, lt-ltb d 8 lt) refl

  word_read : (n d : ℕ) (rest : List ℕ) (frames : List Frame) (level : Level) → n < sizes.blocks → d < 8 →
      run sizes (98 ∷ (decimal n ++ 46 ∷ (48 + d) ∷ rest)) (Operand frames level Start)
      ≡ run sizes rest (completed frames level (block_word n d))
  word_read n d rest frames level lt small =
      block_start (decimal n ++ 46 ∷ (48 + d) ∷ rest) frames level (omega arith)
      ∙ number_read sizes sizes.blocks _ _ (block_reads frames level) n (omega arith) lt (46 ∷ (48 + d) ∷ rest)
      ∙ word_end n d rest frames level small

  sum_signed : (op : Op) → IsSumSign op → (rest : List ℕ) (frames : List Frame) (sum : Pending) (left : Expression) →
      run sizes (sign op ∷ rest) (Operator frames sum left)
      ≡ run sizes rest (Operand frames (record { sum = Some (joined sum left, op); product = None; minuses = 0 }) Start)
  sum_signed Add h rest frames sum left = refl
  sum_signed Sub h rest frames sum left = refl
  sum_signed Mul h rest frames sum left = absurd h
  sum_signed Div h rest frames sum left = absurd h
  sum_signed Rem h rest frames sum left = absurd h

  product_signed : (op : Op) → IsProductSign op →
      (rest : List ℕ) (frames : List Frame) (sum : Pending) (left : Expression) →
      run sizes (sign op ∷ rest) (Operator frames sum left)
      ≡ run sizes rest (Operand frames (record { sum = sum; product = Some (left, op); minuses = 0 }) Start)
  product_signed Add h rest frames sum left = absurd h
  product_signed Sub h rest frames sum left = absurd h
  product_signed Mul h rest frames sum left = refl
  product_signed Div h rest frames sum left = refl
  product_signed Rem h rest frames sum left = refl

  -- an argument, or what stands in parentheses, up to the byte behind it
  part_read : (s : Sum) (frames : List Frame) (r : SumRead s frames) (gap c : ℕ) (rest : List ℕ) →
      IsNoDigit (Rattle.expr_text.specs.Reading.byte_kind c) →
      read sizes (sum_text s ++ (spaces gap ++ c ∷ rest)) (Operand frames fresh Start)
      ≡ read sizes (c ∷ rest) (Operator frames r.sum r.product)
  part_read s frames r gap c rest h =
      r.reads (spaces gap ++ c ∷ rest) (ends_at sizes gap c rest h)
      ∙ ap (and_then finished) (end_spaces sizes gap (c ∷ rest) frames r.sum r.product)

  mutual
    sum_read : (s : Sum) → SumIn sizes s → (frames : List Frame) → SumRead s frames
    sum_read (product p) h frames =
        record { sum = None; product = product_tree p; tree_is = refl; reads = product_read p h frames None }
    sum_read (sum_and s gap op p) h frames =
        let r = sum_read s h.0 frames in
        record {
          sum = Some (joined r.sum r.product, op);
          product = product_tree p;
          tree_is = ap (λ t. binary op t (product_tree p)) r.tree_is;
          reads = λ rest ends.
              let right = spaces gap ++ sign op ∷ (product_text p ++ rest) in
              let same : sum_text (sum_and s gap op p) ++ rest ≡ sum_text s ++ right = simp append_assoc in
              ap (λ t. read sizes t (Operand frames fresh Start)) same
              ∙ r.reads (spaces gap ++ sign op ∷ (product_text p ++ rest))
              (ends_behind sizes gap op (product_text p ++ rest))
              ∙ ap (and_then finished) (end_spaces sizes gap (sign op ∷ (product_text p ++ rest)) frames r.sum r.product
              ∙ sum_signed op h.1 (product_text p ++ rest) frames r.sum r.product)
              ∙ product_read p h.2 frames (Some (joined r.sum r.product, op)) rest ends;
        }

    product_read : (p : Product) → ProductIn sizes p → (frames : List Frame) (sum : Pending) (rest : List ℕ) →
        EndsNumber rest → Reads (product_text p)
        (Operand frames (record { sum = sum; product = None; minuses = 0 }) Start) rest
        (Operator frames sum (product_tree p))
    product_read (factor f) h frames sum rest ends =
        factor_read f h frames (record { sum = sum; product = None; minuses = 0 }) rest ends
    product_read (product_and p gap op f) h frames sum rest ends =
        let right = spaces gap ++ sign op ∷ (factor_text f ++ rest) in
        let same : product_text (product_and p gap op f) ++ rest ≡ product_text p ++ right = simp append_assoc in
        ap (λ t. read sizes t (Operand frames (record { sum = sum; product = None; minuses = 0 }) Start)) same
        ∙ product_read p h.0 frames sum (spaces gap ++ sign op ∷ (factor_text f ++ rest))
        (ends_behind sizes gap op (factor_text f ++ rest))
        ∙ ap (and_then finished) (end_spaces sizes gap (sign op ∷ (factor_text f ++ rest)) frames sum (product_tree p)
        ∙ product_signed op h.1 (factor_text f ++ rest) frames sum (product_tree p))
        ∙ factor_read f h.2 frames (record { sum = sum; product = Some (product_tree p, op); minuses = 0 }) rest ends

    factor_read : (f : Factor) → FactorIn sizes f → (frames : List Frame) (level : Level) (rest : List ℕ) →
        EndsNumber rest → Reads (factor_text f) (Operand frames level Start) rest
        (completed frames level (factor_tree f))
    factor_read (atom a) h frames level rest ends = atom_read a h frames level rest ends
    factor_read (minus gap f) h frames level rest ends =
        let same : factor_text (minus gap f) ++ rest ≡ spaces gap ++ 45 ∷ (factor_text f ++ rest) = simp append_assoc in
        ap (λ t. read sizes t (Operand frames level Start)) same
        ∙ ap (and_then finished) (start_spaces sizes gap (45 ∷ (factor_text f ++ rest)) frames level)
        ∙ factor_read f h frames (record { sum = level.sum; product = level.product; minuses = suc level.minuses }) rest
        ends

    atom_read : (a : Atom) → AtomIn sizes a → (frames : List Frame) (level : Level) (rest : List ℕ) → EndsNumber rest →
        Reads (atom_text a) (Operand frames level Start) rest (completed frames level (atom_tree a))
    atom_read (number_token gap n) h frames level rest ends =
        let same : atom_text (number_token gap n) ++ rest ≡ spaces gap ++ (decimal n ++ rest) = simp append_assoc in
        ap (λ t. read sizes t (Operand frames level Start)) same
        ∙ ap (and_then finished) (start_spaces sizes gap (decimal n ++ rest) frames level
        ∙ number_read sizes (2 ^ 63) _ _ (number_reads frames level) n (omega arith) h rest)
        ∙ number_ended sizes frames level n rest ends
    atom_read (cycle_token gap) h frames level rest ends =
        let same : atom_text (cycle_token gap) ++ rest ≡ spaces gap ++ (codes "cycle" ++ rest) = simp append_assoc in
        ap (λ t. read sizes t (Operand frames level Start)) same
        ∙ ap (and_then finished) (start_spaces sizes gap (codes "cycle" ++ rest) frames level)
    atom_read (input_token gap place) h frames level rest ends =
        let same : atom_text (input_token gap place) ++ rest ≡ spaces gap ++ (codes "in" ++ (48 + place) ∷ rest) =
        simp append_assoc in
        ap (λ t. read sizes t (Operand frames level Start)) same
        ∙ ap (and_then finished) (start_spaces sizes gap (codes "in" ++ (48 + place) ∷ rest) frames level
        ∙ input_read place rest frames level h.0 h.1)
    atom_read (word_token gap block place) h frames level rest ends =
        let same : atom_text (word_token gap block place) ++ rest
        ≡ spaces gap ++ 98 ∷ (decimal block ++ 46 ∷ (48 + place) ∷ rest) = simp append_assoc in
        ap (λ t. read sizes t (Operand frames level Start)) same
        ∙ ap (and_then finished) (start_spaces sizes gap (98 ∷ (decimal block ++ 46 ∷ (48 + place) ∷ rest)) frames level
        ∙ word_read block place rest frames level h.0 h.1)
    atom_read (group gap s end_gap) h frames level rest ends =
        let inner : List Frame = record { opening = Group; level = level } ∷ frames in
        let r = sum_read s h inner in
        let same : atom_text (group gap s end_gap) ++ rest
        ≡ spaces gap ++ 40 ∷ (sum_text s ++ (spaces end_gap ++ 41 ∷ rest)) = simp append_assoc in
        ap (λ t. read sizes t (Operand frames level Start)) same
        ∙ ap (and_then finished) (start_spaces sizes gap (40 ∷ (sum_text s ++ (spaces end_gap ++ 41 ∷ rest))) frames
        level)
        ∙ part_read s inner r end_gap 41 rest tt
        ∙ ap (λ t. read sizes rest (completed frames level t)) r.tree_is
    atom_read (call_form gap f open_gap a first_gap b second_gap c end_gap) h frames level rest ends =
        let first : List Frame = record { opening = First f; level = level } ∷ frames in
        let x = sum_read a h.0 first in
        let second : List Frame = record { opening = Second f (joined x.sum x.product); level = level } ∷ frames in
        let y = sum_read b h.1 second in
        let third : List Frame = record {
          opening = Third f (joined x.sum x.product) (joined y.sum y.product);
          level = level;
        } ∷ frames in
        let z = sum_read c h.2 third in
        let last = sum_text c ++ (spaces end_gap ++ 41 ∷ rest) in
        let later = sum_text b ++ (spaces second_gap ++ 44 ∷ last) in
        let all = sum_text a ++ (spaces first_gap ++ 44 ∷ later) in
        let same : atom_text (call_form gap f open_gap a first_gap b second_gap c end_gap) ++ rest
        ≡ spaces gap ++ (letters f ++ (spaces open_gap ++ 40 ∷ all)) = simp append_assoc in
        ap (λ t. read sizes t (Operand frames level Start)) same
        ∙ ap (and_then finished) (start_spaces sizes gap (letters f ++ (spaces open_gap ++ 40 ∷ all)) frames level
        ∙ name_read f (spaces open_gap ++ 40 ∷ all) frames level
        ∙ name_spaces sizes open_gap (40 ∷ all) frames level f)
        ∙ part_read a first x first_gap 44 later tt
        ∙ part_read b second y second_gap 44 last tt
        ∙ part_read c third z end_gap 41 rest tt
        ∙ ap (λ t. read sizes rest (completed frames level t)) (cc (x.tree_is, y.tree_is, z.tree_is))

  -- what a text of the grammar stands for is what is read
  pub complete : (text : List ℕ) (e : Expression) → SpellsExpression sizes text e → read sizes text initial ≡ Some e
  complete text e h =
      let r = sum_read h.sum h.valid [] in
      ap (λ t. read sizes t initial) (h.text_is)
      ∙ r.reads (spaces h.end_gap) (ends_spaces h.end_gap)
      ∙ ap (λ t. read sizes t (Operator [] r.sum r.product)) (sym (append-nil (spaces h.end_gap)))
      ∙ ap (and_then finished) (end_spaces sizes h.end_gap [] [] r.sum r.product)
      ∙ ap Some (r.tree_is ∙ h.tree_is)
    where
      ends_spaces : (n : ℕ) → EndsNumber (spaces n)
      ends_spaces zero = tt
      ends_spaces (suc n) = tt

  -- one text, one expression
  pub unambiguous : (text : List ℕ) (d e : Expression) → SpellsExpression sizes text d → SpellsExpression sizes text e →
      d ≡ e
  unambiguous text d e g h = let both : Some d ≡ Some e = sym (complete text d g) ∙ complete text e h in cc
