-- What a state of the reader stands for: the text that was read, in the pieces that the grammar makes of it.
use Rattle.std.proofs.Common.{◌≡◌, ℕ, zero, suc, ◌^◌, ◌<◌, List, [], ◌∷◌, ◌++◌, Option, Some, None, sym, ap, ◌∙◌, subst, append_assoc, codes}
use Rattle.std.specs.Fmt.{decimal}
use Rattle.std.proofs.lemmas.List.{append-nil}
use Rattle.guards_model.specs.declared.Op.{Op}
use Rattle.guards_model.specs.Expressions.{Expression, negative}
use Rattle.expr_text.specs.declared.state.Sizes.{Sizes}
use Rattle.expr_text.specs.declared.word.Function.{Function}
use Rattle.expr_text.specs.declared.word.Keyword.{Keyword}
use Rattle.expr_text.specs.declared.word.Keyword.TheVariants as keyword
use Rattle.expr_text.specs.Grammar.{Sum, product, sum_and, Product, factor, product_and, Factor, atom, minus, Atom, spaces, sign, letters, sum_text, product_text, factor_text, atom_text, sum_tree, product_tree, factor_tree, atom_tree, SumIn, ProductIn, FactorIn, AtomIn, IsSumSign, IsProductSign}
use Rattle.expr_text.specs.Names.{first_letter, other_letters}
use Rattle.expr_text.specs.Reading.{Pending, Level, Frame, Opening, Lexeme, State, Operand, Operator, Start, Digits, Letters, InputDigit, BlockStart, BlockDigits, WordDigit, Parenthesis, Group, First, Second, Third, joined, negated, completed}

module _ (sizes : Sizes) where
  -- ---- texts of the grammar's parts

  pub record SumSpelled (text : List ℕ) (e : Expression) : Type 0 where
    pub sum : Sum
    pub valid : SumIn sizes sum
    pub text_is : text ≡ sum_text sum
    pub tree_is : sum_tree sum ≡ e

  pub record ProductSpelled (text : List ℕ) (e : Expression) : Type 0 where
    pub product : Product
    pub valid : ProductIn sizes product
    pub text_is : text ≡ product_text product
    pub tree_is : product_tree product ≡ e

  pub record FactorSpelled (text : List ℕ) (e : Expression) : Type 0 where
    pub factor : Factor
    pub valid : FactorIn sizes factor
    pub text_is : text ≡ factor_text factor
    pub tree_is : factor_tree factor ≡ e

  pub record AtomSpelled (text : List ℕ) (e : Expression) : Type 0 where
    pub atom : Atom
    pub valid : AtomIn sizes atom
    pub text_is : text ≡ atom_text atom
    pub tree_is : atom_tree atom ≡ e

  -- ---- what stands before an operand

  pub record SumPart (e : Expression) (op : Op) (text : List ℕ) : Type 0 where
    pub left : List ℕ
    pub spelled : SumSpelled left e
    pub fits : IsSumSign op
    pub gap : ℕ
    pub text_is : text ≡ left ++ (spaces gap ++ sign op ∷ [])

  pub record ProductPart (e : Expression) (op : Op) (text : List ℕ) : Type 0 where
    pub left : List ℕ
    pub spelled : ProductSpelled left e
    pub fits : IsProductSign op
    pub gap : ℕ
    pub text_is : text ≡ left ++ (spaces gap ++ sign op ∷ [])

  abbrev pub SumPending : Pending → List ℕ → Type 0
  SumPending None text = text ≡ []
  SumPending (Some p) text = SumPart p.0 p.1 text

  abbrev pub ProductPending : Pending → List ℕ → Type 0
  ProductPending None text = text ≡ []
  ProductPending (Some p) text = ProductPart p.0 p.1 text

  abbrev pub Minuses : ℕ → List ℕ → Type 0
  Minuses zero text = text ≡ []
  Minuses (suc n) text = (front : List ℕ) × (gap : ℕ) × Minuses n front × (text ≡ front ++ (spaces gap ++ 45 ∷ []))

  pub record LevelRead (level : Level) (text : List ℕ) : Type 0 where
    pub sums : List ℕ
    pub products : List ℕ
    pub signs : List ℕ
    pub sum : SumPending level.sum sums
    pub product : ProductPending level.product products
    pub minuses : Minuses level.minuses signs
    pub text_is : text ≡ sums ++ (products ++ signs)

  -- ---- open parentheses

  pub record FirstRead (f : Function) (text : List ℕ) : Type 0 where
    pub gap : ℕ
    pub open_gap : ℕ
    pub text_is : text ≡ spaces gap ++ (letters f ++ (spaces open_gap ++ 40 ∷ []))

  pub record SecondRead (f : Function) (a : Expression) (text : List ℕ) : Type 0 where
    pub before : List ℕ
    pub first : FirstRead f before
    pub argument : List ℕ
    pub spelled : SumSpelled argument a
    pub gap : ℕ
    pub text_is : text ≡ before ++ (argument ++ (spaces gap ++ 44 ∷ []))

  pub record ThirdRead (f : Function) (a b : Expression) (text : List ℕ) : Type 0 where
    pub before : List ℕ
    pub second : SecondRead f a before
    pub argument : List ℕ
    pub spelled : SumSpelled argument b
    pub gap : ℕ
    pub text_is : text ≡ before ++ (argument ++ (spaces gap ++ 44 ∷ []))

  abbrev pub OpeningRead : Opening → List ℕ → Type 0
  OpeningRead Group text = (gap : ℕ) × (text ≡ spaces gap ++ 40 ∷ [])
  OpeningRead (First f) text = FirstRead f text
  OpeningRead (Second f a) text = SecondRead f a text
  OpeningRead (Third f a b) text = ThirdRead f a b text

  abbrev pub FramesRead : List Frame → List ℕ → Type 0
  FramesRead [] text = text ≡ []
  FramesRead (frame ∷ frames) text = (outer : List ℕ) × (before : List ℕ) × (opening : List ℕ) × FramesRead frames outer
      × LevelRead frame.level before × OpeningRead frame.opening opening × (text ≡ outer ++ (before ++ opening))

  -- ---- an operand that is not read to its end

  -- a name that some text has: of an input word where there is one, and of a block where there is one
  abbrev pub Exists : Keyword → Type 0
  Exists keyword.Cycle = Unit {0}
  Exists keyword.Input = 0 < sizes.width
  Exists keyword.Block = 0 < sizes.blocks
  Exists (keyword.Call f) = Unit {0}

  pub record LettersRead (k : Keyword) (next : ℕ) (rest text : List ℕ) : Type 0 where
    pub known : Exists k
    pub gap : ℕ
    pub done : List ℕ
    pub name_is : done ++ next ∷ rest ≡ first_letter k ∷ other_letters k
    pub text_is : text ≡ spaces gap ++ done

  abbrev pub LexemeRead : Lexeme → List ℕ → Type 0
  LexemeRead Start text = (gap : ℕ) × (text ≡ spaces gap)
  LexemeRead (Digits n) text = (gap : ℕ) × (n < 2 ^ 63) × (text ≡ spaces gap ++ decimal n)
  LexemeRead (Letters k next rest) text = LettersRead k next rest text
  LexemeRead InputDigit text = (gap : ℕ) × (0 < sizes.width) × (text ≡ spaces gap ++ codes "in")
  LexemeRead BlockStart text = (gap : ℕ) × (0 < sizes.blocks) × (text ≡ spaces gap ++ codes "b")
  LexemeRead (BlockDigits n) text = (gap : ℕ) × (n < sizes.blocks) × (text ≡ spaces gap ++ (codes "b" ++ decimal n))
  LexemeRead (WordDigit n) text = (gap : ℕ) × (n < sizes.blocks)
      × (text ≡ spaces gap ++ (codes "b" ++ (decimal n ++ 46 ∷ [])))
  LexemeRead (Parenthesis f) text = (gap : ℕ) × (open_gap : ℕ) × (text ≡ spaces gap ++ (letters f ++ spaces open_gap))

  pub record OperandRead (frames : List Frame) (level : Level) (lexeme : Lexeme) (text : List ℕ) : Type 0 where
    pub outer : List ℕ
    pub before : List ℕ
    pub part : List ℕ
    pub frames_read : FramesRead frames outer
    pub level_read : LevelRead level before
    pub lexeme_read : LexemeRead lexeme part
    pub text_is : text ≡ outer ++ (before ++ part)

  pub record OperatorRead (frames : List Frame) (sum : Pending) (product : Expression) (text : List ℕ) : Type 0 where
    pub outer : List ℕ
    pub sums : List ℕ
    pub products : List ℕ
    pub frames_read : FramesRead frames outer
    pub sum_read : SumPending sum sums
    pub product_read : ProductSpelled products product
    pub gap : ℕ
    pub text_is : text ≡ outer ++ (sums ++ (products ++ spaces gap))

  abbrev pub StateRead : State → List ℕ → Type 0
  StateRead (Operand frames level lexeme) text = OperandRead frames level lexeme text
  StateRead (Operator frames sum made) text = OperatorRead frames sum made text

  abbrev pub OptionRead : Option State → List ℕ → Type 0
  OptionRead None text = Unit {0}
  OptionRead (Some s) text = StateRead s text

  -- ---- putting pieces together

  pub minuses_spelled : (n : ℕ) (signs text : List ℕ) (e : Expression) → Minuses n signs → FactorSpelled text e →
      FactorSpelled (signs ++ text) (negated n e)
  minuses_spelled zero signs text e h f = subst (λ t. FactorSpelled (t ++ text) e) (sym h) f
  minuses_spelled (suc n) signs text e h f =
      let one : FactorSpelled ((spaces h.1 ++ 45 ∷ []) ++ text) (negative e) = record {
        factor = minus h.1 f.factor;
        valid = f.valid;
        text_is = append_assoc (spaces h.1) (45 ∷ []) text ∙ ap (λ t. spaces h.1 ++ 45 ∷ t) f.text_is;
        tree_is = ap negative f.tree_is;
      } in
      let same : h.0 ++ ((spaces h.1 ++ 45 ∷ []) ++ text) ≡ signs ++ text =
      sym (ap (λ t. t ++ text) h.3 ∙ append_assoc h.0 (spaces h.1 ++ 45 ∷ []) text) in
      subst (λ t. FactorSpelled t (negated n (negative e))) same
      (minuses_spelled n h.0 ((spaces h.1 ++ 45 ∷ []) ++ text) (negative e) h.2 one)

  pub product_joined : (p : Pending) (left right : List ℕ) (e : Expression) → ProductPending p left →
      FactorSpelled right e → ProductSpelled (left ++ right) (joined p e)
  product_joined None left right e h f = record {
    product = factor f.factor;
    valid = f.valid;
    text_is = ap (λ t. t ++ right) h ∙ f.text_is;
    tree_is = f.tree_is;
  }
  product_joined (Some p) left right e h f = record {
    product = product_and h.spelled.product h.gap p.1 f.factor;
    valid = (h.spelled.valid, h.fits, f.valid);
    text_is =
        let a : left ++ right ≡ h.left ++ (spaces h.gap ++ sign p.1 ∷ right) =
        ap (λ t. t ++ right) h.text_is ∙ simp append_assoc in
        a ∙ ap (λ t. t ++ (spaces h.gap ++ sign p.1 ∷ right)) h.spelled.text_is
        ∙ ap (λ t. product_text h.spelled.product ++ (spaces h.gap ++ sign p.1 ∷ t)) f.text_is;
    tree_is = cc (h.spelled.tree_is, f.tree_is);
  }

  pub sum_joined : (p : Pending) (left right : List ℕ) (e : Expression) → SumPending p left → ProductSpelled right e →
      SumSpelled (left ++ right) (joined p e)
  sum_joined None left right e h f = record {
    sum = product f.product;
    valid = f.valid;
    text_is = ap (λ t. t ++ right) h ∙ f.text_is;
    tree_is = f.tree_is;
  }
  sum_joined (Some p) left right e h f = record {
    sum = sum_and h.spelled.sum h.gap p.1 f.product;
    valid = (h.spelled.valid, h.fits, f.valid);
    text_is =
        let a : left ++ right ≡ h.left ++ (spaces h.gap ++ sign p.1 ∷ right) =
        ap (λ t. t ++ right) h.text_is ∙ simp append_assoc in
        a ∙ ap (λ t. t ++ (spaces h.gap ++ sign p.1 ∷ right)) h.spelled.text_is
        ∙ ap (λ t. sum_text h.spelled.sum ++ (spaces h.gap ++ sign p.1 ∷ t)) f.text_is;
    tree_is = cc (h.spelled.tree_is, f.tree_is);
  }

  -- an operand that is read to its end
  pub completed_read : (frames : List Frame) (level : Level) (outer before part text : List ℕ) (e : Expression) →
      FramesRead frames outer → LevelRead level before → AtomSpelled part e → text ≡ outer ++ (before ++ part) →
      StateRead (completed frames level e) text
  completed_read frames level outer before part text e fr lr a t =
      let f : FactorSpelled part e =
      record { factor = atom a.atom; valid = a.valid; text_is = a.text_is; tree_is = a.tree_is } in
      let g = minuses_spelled level.minuses lr.signs part e lr.minuses f in
      record {
        outer = outer;
        sums = lr.sums;
        products = lr.products ++ (lr.signs ++ part);
        frames_read = fr;
        sum_read = lr.sum;
        product_read = product_joined level.product lr.products (lr.signs ++ part) (negated level.minuses e) lr.product
            g;
        gap = 0;
        text_is =
            let same : (lr.sums ++ (lr.products ++ lr.signs)) ++ part
            ≡ lr.sums ++ ((lr.products ++ (lr.signs ++ part)) ++ []) = simp (append_assoc, append-nil) in
            t ∙ ap (λ b. outer ++ (b ++ part)) lr.text_is ∙ ap (λ b. outer ++ b) same;
      }
