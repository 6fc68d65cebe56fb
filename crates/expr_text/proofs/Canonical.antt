-- The printed text is in the grammar, for the same expression, and short enough to be read again.
use Rattle.std.proofs.Common.{◌≡◌, ℕ, ◌+◌, ◌*◌, ◌^◌, ◌<◌, ◌≤◌, ℤ, pos, negsuc, List, [], ◌∷◌, ◌++◌, length, refl, sym, ap, ◌∙◌, subst, append_assoc, arith, length-append, codes}
use Rattle.std.specs.Fmt.{decimal}
use Rattle.std.proofs.lemmas.Fmt.{decimal_digit, length-decimal-le}
use Rattle.std.proofs.lemmas.List.{append-nil}
use Rattle.guards_model.specs.declared.Code.TheVariants.{Sat, Mid, Ramp}
use Rattle.guards_model.specs.declared.Op.{Op}
use Rattle.guards_model.specs.declared.Op.TheVariants.{Add, Sub, Mul, Div, Rem}
use Rattle.guards_model.specs.Expressions.{Expression, number, cycle_number, input, block_word, negative, binary, call, pick}
use Rattle.expr_core.specs.Size.{node_count}
use Rattle.expr_text.specs.declared.state.Sizes.{Sizes}
use Rattle.expr_text.specs.declared.word.Function.{Function}
use Rattle.expr_text.specs.declared.word.Function.TheVariants as called
use Rattle.expr_text.specs.Grammar.{Sum, product, sum_and, Product, factor, product_and, Factor, atom, minus, Atom, number_token, cycle_token, input_token, word_token, group, call_form, spaces, sign, letters, sum_text, factor_text, atom_text, sum_tree, product_tree, factor_tree, atom_tree, called_with, SumIn, ProductIn, FactorIn, AtomIn, SpellsExpression}
use Rattle.expr_text.specs.Parsing.{IsRead}
use Rattle.expr_text.specs.Printing.{call_text, canonical}

-- a part of a sum or a product, as a sum
abbrev alone : Factor → Sum
alone f = product (factor f)

abbrev joined_by : Op → Factor → Factor → Sum
joined_by Add a b = sum_and (alone a) 1 Add (factor b)
joined_by Sub a b = sum_and (alone a) 1 Sub (factor b)
joined_by Mul a b = product (product_and (factor a) 1 Mul b)
joined_by Div a b = product (product_and (factor a) 1 Div b)
joined_by Rem a b = product (product_and (factor a) 1 Rem b)

abbrev magnitude : ℤ → ℕ
magnitude (pos n) = n
magnitude (negsuc n) = 0

-- the productions of the printed text, behind a number of spaces
abbrev written : ℕ → Expression → Factor
written gap (number n) = atom (number_token gap (magnitude n))
written gap cycle_number = atom (cycle_token gap)
written gap (input place) = atom (input_token gap place)
written gap (block_word block place) = atom (word_token gap block place)
written gap (negative a) = minus gap (written 0 a)
written gap (binary op a b) = atom (group gap (joined_by op (written 0 a) (written 1 b)) 0)
written gap (call code a b c) =
    atom (call_form gap (called.Native code) 0 (alone (written 0 a)) 0 (alone (written 1 b)) 0 (alone (written 1 c)) 0)
written gap (pick a b c) =
    atom (call_form gap called.Pick 0 (alone (written 0 a)) 0 (alone (written 1 b)) 0 (alone (written 1 c)) 0)

module _ (sizes : Sizes) (few_blocks : sizes.blocks ≤ 256) where
  -- what each expression of the grammar meets
  abbrev pub TreeIn : Expression → Type 0
  TreeIn (number (pos n)) = n < 2 ^ 63
  TreeIn (number (negsuc n)) = ⊥
  TreeIn cycle_number = Unit {0}
  TreeIn (input place) = (place < 10) × (place < sizes.width)
  TreeIn (block_word block place) = (block < sizes.blocks) × (place < 8)
  TreeIn (negative a) = TreeIn a
  TreeIn (binary op a b) = TreeIn a × TreeIn b
  TreeIn (call code a b c) = TreeIn a × TreeIn b × TreeIn c
  TreeIn (pick a b c) = TreeIn a × TreeIn b × TreeIn c

  called_in : (f : Function) (a b c : Expression) → TreeIn a → TreeIn b → TreeIn c → TreeIn (called_with f a b c)
  called_in (called.Native code) a b c x y z = (x, y, z)
  called_in called.Pick a b c x y z = (x, y, z)

  mutual
    sum_in : (s : Sum) → SumIn sizes s → TreeIn (sum_tree s)
    sum_in (product p) h = product_in p h
    sum_in (sum_and s gap op p) h = (sum_in s h.0, product_in p h.2)

    product_in : (p : Product) → ProductIn sizes p → TreeIn (product_tree p)
    product_in (factor f) h = factor_in f h
    product_in (product_and p gap op f) h = (product_in p h.0, factor_in f h.2)

    factor_in : (f : Factor) → FactorIn sizes f → TreeIn (factor_tree f)
    factor_in (atom a) h = atom_in a h
    factor_in (minus gap f) h = factor_in f h

    atom_in : (a : Atom) → AtomIn sizes a → TreeIn (atom_tree a)
    atom_in (number_token gap n) h = h
    atom_in (cycle_token gap) h = tt
    atom_in (input_token gap place) h = h
    atom_in (word_token gap block place) h = h
    atom_in (group gap s end_gap) h = sum_in s h
    atom_in (call_form gap f open_gap a first_gap b second_gap c end_gap) h =
        called_in f (sum_tree a) (sum_tree b) (sum_tree c) (sum_in a h.0) (sum_in b h.1) (sum_in c h.2)

  pub read_in : (text : List ℕ) (e : Expression) → SpellsExpression sizes text e → TreeIn e
  read_in text e h = subst TreeIn h.tree_is (sum_in h.sum h.valid)

  joined_valid : (op : Op) (a b : Factor) → FactorIn sizes a → FactorIn sizes b → SumIn sizes (joined_by op a b)
  joined_valid Add a b x y = (x, tt, y)
  joined_valid Sub a b x y = (x, tt, y)
  joined_valid Mul a b x y = (x, tt, y)
  joined_valid Div a b x y = (x, tt, y)
  joined_valid Rem a b x y = (x, tt, y)

  joined_tree : (op : Op) (a b : Factor) → sum_tree (joined_by op a b) ≡ binary op (factor_tree a) (factor_tree b)
  joined_tree Add a b = refl
  joined_tree Sub a b = refl
  joined_tree Mul a b = refl
  joined_tree Div a b = refl
  joined_tree Rem a b = refl

  joined_text : (op : Op) (a b : Factor) → sum_text (joined_by op a b) ≡ factor_text a ++ 32 ∷ sign op ∷ factor_text b
  joined_text Add a b = refl
  joined_text Sub a b = refl
  joined_text Mul a b = refl
  joined_text Div a b = refl
  joined_text Rem a b = refl

  written_valid : (gap : ℕ) (e : Expression) → TreeIn e → FactorIn sizes (written gap e)
  written_valid gap (number (pos n)) h = h
  written_valid gap (number (negsuc n)) h = absurd h
  written_valid gap cycle_number h = tt
  written_valid gap (input place) h = h
  written_valid gap (block_word block place) h = h
  written_valid gap (negative a) h = written_valid 0 a h
  written_valid gap (binary op a b) h =
      joined_valid op (written 0 a) (written 1 b) (written_valid 0 a h.0) (written_valid 1 b h.1)
  written_valid gap (call code a b c) h = (written_valid 0 a h.0, written_valid 1 b h.1, written_valid 1 c h.2)
  written_valid gap (pick a b c) h = (written_valid 0 a h.0, written_valid 1 b h.1, written_valid 1 c h.2)

  written_tree : (gap : ℕ) (e : Expression) → TreeIn e → factor_tree (written gap e) ≡ e
  written_tree gap (number (pos n)) h = refl
  written_tree gap (number (negsuc n)) h = absurd h
  written_tree gap cycle_number h = refl
  written_tree gap (input place) h = refl
  written_tree gap (block_word block place) h = refl
  written_tree gap (negative a) h = ap negative (written_tree 0 a h)
  written_tree gap (binary op a b) h =
      joined_tree op (written 0 a) (written 1 b) ∙ (let x = written_tree 0 a h.0 in let y = written_tree 1 b h.1 in cc)
  written_tree gap (call code a b c) h = let x = written_tree 0 a h.0 in let y = written_tree 1 b h.1 in let z =
      written_tree 1 c h.2 in cc
  written_tree gap (pick a b c) h = let x = written_tree 0 a h.0 in let y = written_tree 1 b h.1 in let z =
      written_tree 1 c h.2 in cc

  call_written : (gap : ℕ) (f : Function) (a b c : Factor) (x y z : List ℕ) → factor_text a ≡ x →
      factor_text b ≡ 32 ∷ y → factor_text c ≡ 32 ∷ z →
      atom_text (call_form gap f 0 (alone a) 0 (alone b) 0 (alone c) 0) ≡ spaces gap ++ call_text f x y z
  call_written gap f a b c x y z p q r =
      ap (λ t. spaces gap ++ (letters f ++ 40 ∷ (t ++ 44 ∷ (factor_text b ++ 44 ∷ (factor_text c ++ 41 ∷ []))))) p
      ∙ ap (λ t. spaces gap ++ (letters f ++ 40 ∷ (x ++ 44 ∷ (t ++ 44 ∷ (factor_text c ++ 41 ∷ []))))) q
      ∙ ap (λ t. spaces gap ++ (letters f ++ 40 ∷ (x ++ 44 ∷ 32 ∷ (y ++ 44 ∷ (t ++ 41 ∷ []))))) r

  written_text : (gap : ℕ) (e : Expression) → TreeIn e → factor_text (written gap e) ≡ spaces gap ++ canonical e
  written_text gap (number (pos n)) h = refl
  written_text gap (number (negsuc n)) h = absurd h
  written_text gap cycle_number h = refl
  written_text gap (input place) h = ap (λ t. spaces gap ++ (codes "in" ++ t)) (sym (decimal_digit place h.0))
  written_text gap (block_word block place) h =
      ap (λ t. spaces gap ++ (codes "b" ++ (decimal block ++ 46 ∷ t))) (sym (decimal_digit place (omega (arith, h.1))))
  written_text gap (negative a) h = ap (λ t. spaces gap ++ 45 ∷ t) (written_text 0 a h)
  written_text gap (binary op a b) h =
      let inner = joined_text op (written 0 a) (written 1 b) in
      let regroup : (canonical a ++ 32 ∷ sign op ∷ 32 ∷ canonical b) ++ 41 ∷ []
      ≡ canonical a ++ 32 ∷ sign op ∷ 32 ∷ (canonical b ++ 41 ∷ []) = simp append_assoc in
      ap (λ t. spaces gap ++ 40 ∷ (t ++ 41 ∷ []))
      (inner ∙ ap (λ t. t ++ 32 ∷ sign op ∷ factor_text (written 1 b)) (written_text 0 a h.0)
      ∙ ap (λ t. canonical a ++ 32 ∷ sign op ∷ t) (written_text 1 b h.1))
      ∙ ap (λ t. spaces gap ++ 40 ∷ t) regroup
  written_text gap (call code a b c) h =
      call_written gap (called.Native code) (written 0 a) (written 1 b) (written 1 c) (canonical a) (canonical b)
      (canonical c) (written_text 0 a h.0) (written_text 1 b h.1) (written_text 1 c h.2)
  written_text gap (pick a b c) h =
      call_written gap called.Pick (written 0 a) (written 1 b) (written 1 c) (canonical a) (canonical b) (canonical c)
      (written_text 0 a h.0) (written_text 1 b h.1) (written_text 1 c h.2)

  pub canonical_spells : (e : Expression) → TreeIn e → SpellsExpression sizes (canonical e) e
  canonical_spells e h = record {
    sum = alone (written 0 e);
    valid = written_valid 0 e h;
    end_gap = 0;
    text_is = sym (append-nil (factor_text (written 0 e)) ∙ written_text 0 e h);
    tree_is = written_tree 0 e h;
  }

  -- ---- its length

  letters_length : (f : Function) → length (letters f) ≤ 4
  letters_length (called.Native Sat) = omega arith
  letters_length (called.Native Mid) = omega arith
  letters_length (called.Native Ramp) = omega arith
  letters_length called.Pick = omega arith

  call_length : (f : Function) (x y z : List ℕ) → length (call_text f x y z) ≤ length x + length y + length z + 10
  call_length f x y z = simp length-append (omega (arith, letters_length f))

  pub canonical_length : (e : Expression) → TreeIn e → length (canonical e) ≤ 16 * node_count e + 3
  canonical_length (number (pos n)) h = omega (arith, length-decimal-le 19 n (omega arith) (omega arith) (omega arith))
  canonical_length (number (negsuc n)) h = absurd h
  canonical_length cycle_number h = omega arith
  canonical_length (input place) h =
      simp length-append (omega (arith, length-decimal-le 1 place (omega arith) (omega arith) (omega arith)))
  canonical_length (block_word block place) h =
      simp length-append (omega (
        arith,
        length-decimal-le 3 block (omega arith) (omega arith) (omega arith),
        length-decimal-le 1 place (omega arith) (omega arith) (omega arith),
      ))
  canonical_length (negative a) h = omega (arith, canonical_length a h)
  canonical_length (binary op a b) h =
      simp length-append (omega (arith, canonical_length a h.0, canonical_length b h.1))
  canonical_length (call code a b c) h =
      omega (
        arith,
        call_length (called.Native code) (canonical a) (canonical b) (canonical c),
        canonical_length a h.0,
        canonical_length b h.1,
        canonical_length c h.2,
      )
  canonical_length (pick a b c) h =
      omega (
        arith,
        call_length called.Pick (canonical a) (canonical b) (canonical c),
        canonical_length a h.0,
        canonical_length b h.1,
        canonical_length c h.2,
      )

  pub read_again : (text : List ℕ) (e : Expression) → IsRead sizes text e → IsRead sizes (canonical e) e
  read_again text e h =
      let fits = read_in text e h.spelled in
      record {
        short = omega (arith, canonical_length e fits, h.small.0);
        spelled = canonical_spells e fits;
        small = h.small;
      }
