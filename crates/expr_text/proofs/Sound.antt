-- What is read stands for what it is read as, and each state for what was read so far.
use Rattle.std.proofs.Common.{◌≡◌, ℕ, zero, suc, ◌+◌, ◌*◌, ◌/◌, ◌%◌, ◌^◌, ◌<◌, ◌≤◌, pos, List, [], ◌∷◌, ◌++◌, Option, Some, None, refl, sym, ap, ◌∙◌, subst, append_assoc, arith, codes, nat_lt, nat_eq}
use Rattle.std.specs.Fmt.{decimal}
use Rattle.std.proofs.lemmas.List.{append-nil}
use Rattle.std.proofs.lemmas.Bool.{ltb-true, eqb-true}
use Rattle.std.proofs.lemmas.Fmt.{decimal_digit, decimal_step}
use Rattle.guards_model.specs.declared.Code.TheVariants.{Sat, Mid, Ramp}
use Rattle.guards_model.specs.declared.Op.{Op}
use Rattle.guards_model.specs.declared.Op.TheVariants.{Add, Sub, Mul, Div, Rem}
use Rattle.guards_model.specs.Expressions.{Expression, number, cycle_number, input, block_word}
use Rattle.expr_text.specs.declared.state.Sizes.{Sizes}
use Rattle.expr_text.specs.declared.word.Function.{Function}
use Rattle.expr_text.specs.declared.word.Function.TheVariants as called
use Rattle.expr_text.specs.declared.word.Keyword.{Keyword}
use Rattle.expr_text.specs.declared.word.Keyword.TheVariants as keyword
use Rattle.expr_text.specs.declared.word.Kind.{Kind}
use Rattle.expr_text.specs.declared.word.Kind.TheVariants.{Space, Sign, Open, Close, Comma, Dot, Digit, Letter, Other}
use Rattle.expr_text.specs.Grammar.{Atom, number_token, cycle_token, input_token, word_token, group, call_form, spaces, sign, letters, atom_text, atom_tree, called_with, AtomIn, IsSumSign, IsProductSign, SpellsExpression}
use Rattle.expr_text.specs.Names.{first_letter, other_letters}
use Rattle.expr_text.specs.Reading.{Pending, Level, Frame, Opening, Lexeme, State, Operand, Operator, Start, Digits, Letters, InputDigit, BlockStart, BlockDigits, WordDigit, Parenthesis, Group, First, Second, Third, fresh, initial, joined, factored, completed, opened, named, keyword_spelled, keyword_at, begun, with_digit, with_number, signed, at_start, at_end, closed_at, next_at, in_digits, in_letters, in_input, at_block, in_block, in_word, at_parenthesis, after, byte_kind, run, read, and_then, finished, finished_in}
use Rattle.expr_text.proofs.Bytes.{IsKind, is_kind, cond_by}
use Rattle.expr_text.proofs.Pieces.{SumSpelled, AtomSpelled, LevelRead, ThirdRead, OpeningRead, FramesRead, Exists, LexemeRead, OperandRead, OperatorRead, StateRead, OptionRead, sum_joined, completed_read}

space_more : (n : ℕ) → spaces n ++ 32 ∷ [] ≡ spaces (suc n)
space_more zero = refl
space_more (suc n) = ap (λ t. 32 ∷ t) (space_more n)

-- one more byte
moved : (part p q : List ℕ) (byte x : ℕ) → part ≡ p → byte ≡ x → p ++ x ∷ [] ≡ q → part ++ byte ∷ [] ≡ q
moved part p q byte x e h same = ap (λ t. t ++ byte ∷ []) e ∙ ap (λ b. p ++ b ∷ []) h ∙ same

in_three : (text a b c d : List ℕ) (byte : ℕ) → text ≡ a ++ (b ++ c) → c ++ byte ∷ [] ≡ d →
    text ++ byte ∷ [] ≡ a ++ (b ++ d)
in_three text a b c d byte e h =
    let same : (a ++ (b ++ c)) ++ byte ∷ [] ≡ a ++ (b ++ (c ++ byte ∷ [])) = simp append_assoc in
    ap (λ t. t ++ byte ∷ []) e ∙ same ∙ ap (λ t. a ++ (b ++ t)) h

decimal_more : (n d : ℕ) → 0 < n → d < 10 → n * 10 + d < 2 ^ 64 → decimal n ++ (48 + d) ∷ [] ≡ decimal (n * 10 + d)
decimal_more n d some small wide =
    let front : (n * 10 + d) / 10 ≡ n = omega arith in
    let last : (n * 10 + d) % 10 ≡ d = omega arith in
    sym (decimal_step (n * 10 + d) (omega arith) wide ∙ ap (λ k. decimal k ++ (48 + (n * 10 + d) % 10) ∷ []) front
    ∙ ap (λ k. decimal n ++ (48 + k) ∷ []) last)

pub with_number_by : (P : Option State → Type 0) (go : ℕ → State) (limit n d : ℕ) → P None →
    (0 < n → n * 10 + d < limit → P (Some (go (n * 10 + d)))) → P (with_number go (with_digit limit n d))
with_number_by P go limit zero d none some = none
with_number_by P go limit (suc n) d none some =
    cond_by (λ o. P (with_number go o)) (nat_lt (suc n * 10 + d) limit) _ _ (λ e. some (omega arith) (ltb-true _ _ e))
    (λ _. none)

module _ (sizes : Sizes) (few_blocks : sizes.blocks ≤ 256) where
  abbrev Read : Option State → List ℕ → Type 0
  Read = OptionRead sizes

  lexed : (frames : List Frame) (level : Level) (old new : Lexeme) (text part : List ℕ) (byte : ℕ)
      (r : OperandRead sizes frames level old text) → r.part ++ byte ∷ [] ≡ part → LexemeRead sizes new part →
      OperandRead sizes frames level new (text ++ byte ∷ [])
  lexed frames level old new text part byte r e l = record {
    outer = r.outer;
    before = r.before;
    part = part;
    frames_read = r.frames_read;
    level_read = r.level_read;
    lexeme_read = l;
    text_is = in_three text r.outer r.before r.part part byte r.text_is e;
  }

  lexed_to_end : (frames : List Frame) (level : Level) (old : Lexeme) (text part : List ℕ) (byte : ℕ) (e : Expression)
      (r : OperandRead sizes frames level old text) → r.part ++ byte ∷ [] ≡ part → AtomSpelled sizes part e →
      StateRead sizes (completed frames level e) (text ++ byte ∷ [])
  lexed_to_end frames level old text part byte e r h a =
      completed_read sizes frames level r.outer r.before part (text ++ byte ∷ []) e r.frames_read r.level_read a
      (in_three text r.outer r.before r.part part byte r.text_is h)

  fresh_read : LevelRead sizes fresh []
  fresh_read = record {
    sums = [];
    products = [];
    signs = [];
    sum = refl;
    product = refl;
    minuses = refl;
    text_is = refl;
  }

  opened_read : (frames : List Frame) (level : Level) (opening : Opening) (outer before part text : List ℕ) →
      FramesRead sizes frames outer → LevelRead sizes level before → OpeningRead sizes opening part →
      text ≡ outer ++ (before ++ part) → StateRead sizes (opened frames level opening) text
  opened_read frames level opening outer before part text fr lr o e = record {
    outer = outer ++ (before ++ part);
    before = [];
    part = [];
    frames_read = (outer, before, part, fr, lr, o, refl);
    level_read = fresh_read;
    lexeme_read = (0, refl);
    text_is = e ∙ sym (append-nil (outer ++ (before ++ part)));
  }

  atom_of : (a : Atom) → AtomIn sizes a → AtomSpelled sizes (atom_text a) (atom_tree a)
  atom_of a h = record { atom = a; valid = h; text_is = refl; tree_is = refl }

  -- ---- names

  named_read : (frames : List Frame) (level : Level) (old : Lexeme) (text : List ℕ) (byte : ℕ) (k : Keyword)
      (r : OperandRead sizes frames level old text) (gap : ℕ) → Exists sizes k →
      r.part ++ byte ∷ [] ≡ spaces gap ++ first_letter k ∷ other_letters k →
      StateRead sizes (named frames level k) (text ++ byte ∷ [])
  named_read frames level old text byte keyword.Cycle r gap known e =
      lexed_to_end frames level old text _ byte cycle_number r e (atom_of (cycle_token gap) tt)
  named_read frames level old text byte keyword.Input r gap known e =
      lexed frames level old InputDigit text _ byte r e (gap, known, refl)
  named_read frames level old text byte keyword.Block r gap known e =
      lexed frames level old BlockStart text _ byte r e (gap, known, refl)
  named_read frames level old text byte (keyword.Call (called.Native Sat)) r gap known e =
      lexed frames level old (Parenthesis (called.Native Sat)) text _ byte r e (gap, 0, refl)
  named_read frames level old text byte (keyword.Call (called.Native Mid)) r gap known e =
      lexed frames level old (Parenthesis (called.Native Mid)) text _ byte r e (gap, 0, refl)
  named_read frames level old text byte (keyword.Call (called.Native Ramp)) r gap known e =
      lexed frames level old (Parenthesis (called.Native Ramp)) text _ byte r e (gap, 0, refl)
  named_read frames level old text byte (keyword.Call called.Pick) r gap known e =
      lexed frames level old (Parenthesis called.Pick) text _ byte r e (gap, 0, refl)

  spelled_read : (frames : List Frame) (level : Level) (old : Lexeme) (text : List ℕ) (byte : ℕ) (k : Keyword)
      (rest done : List ℕ) (r : OperandRead sizes frames level old text) (gap : ℕ) → Exists sizes k →
      done ++ rest ≡ first_letter k ∷ other_letters k → r.part ++ byte ∷ [] ≡ spaces gap ++ done →
      StateRead sizes (keyword_spelled frames level k rest) (text ++ byte ∷ [])
  spelled_read frames level old text byte k [] done r gap known name e =
      named_read frames level old text byte k r gap known (e ∙ ap (λ t. spaces gap ++ t) (sym (append-nil done) ∙ name))
  spelled_read frames level old text byte k (next ∷ rest) done r gap known name e =
      lexed frames level old (Letters k next rest) text (spaces gap ++ done) byte r e
      (record { known = known; gap = gap; done = done; name_is = name; text_is = refl })

  begun_read : (frames : List Frame) (level : Level) (text : List ℕ) (byte : ℕ) (k : Keyword)
      (r : OperandRead sizes frames level Start text) → Exists sizes k → byte ≡ first_letter k →
      Read (begun frames level (Some k)) (text ++ byte ∷ [])
  begun_read frames level text byte k r known h =
      spelled_read frames level Start text byte k (other_letters k) (first_letter k ∷ []) r r.lexeme_read.0 known refl
      (moved r.part (spaces r.lexeme_read.0) _ byte (first_letter k) r.lexeme_read.1 h refl)

  keyword_read : (frames : List Frame) (level : Level) (text : List ℕ) (byte x : ℕ) → byte ≡ x →
      OperandRead sizes frames level Start text → Read (begun frames level (keyword_at sizes x)) (text ++ byte ∷ [])
  keyword_read frames level text byte x h r =
      let P : Option Keyword → Type 0 = λ o. Read (begun frames level o) (text ++ byte ∷ []) in
      let one : (k : Keyword) → Exists sizes k → x ≡ first_letter k →
      P (Some k) = λ k known e. begun_read frames level text byte k r known (h ∙ e) in
      cond_by P (nat_eq x 99) _ _ (λ e. one keyword.Cycle tt (eqb-true _ _ e)) (λ _.
      cond_by P (nat_eq x 105) _ _
      (λ e. cond_by P (nat_lt 0 sizes.width) _ _ (λ some. one keyword.Input (ltb-true _ _ some) (eqb-true _ _ e))
      (λ _. tt)) (λ _.
      cond_by P (nat_eq x 98) _ _
      (λ e. cond_by P (nat_lt 0 sizes.blocks) _ _ (λ some. one keyword.Block (ltb-true _ _ some) (eqb-true _ _ e))
      (λ _. tt)) (λ _.
      cond_by P (nat_eq x 115) _ _ (λ e. one (keyword.Call (called.Native Sat)) tt (eqb-true _ _ e)) (λ _.
      cond_by P (nat_eq x 109) _ _ (λ e. one (keyword.Call (called.Native Mid)) tt (eqb-true _ _ e)) (λ _.
      cond_by P (nat_eq x 114) _ _ (λ e. one (keyword.Call (called.Native Ramp)) tt (eqb-true _ _ e)) (λ _.
      cond_by P (nat_eq x 112) _ _ (λ e. one (keyword.Call called.Pick) tt (eqb-true _ _ e)) (λ _. tt)))))))

  -- ---- behind an operand

  sum_signed_read : (frames : List Frame) (sum : Pending) (made : Expression) (text : List ℕ) (byte : ℕ) (op : Op) →
      IsSumSign op → byte ≡ sign op → OperatorRead sizes frames sum made text →
      OperandRead sizes frames (record { sum = Some (joined sum made, op); product = None; minuses = 0 }) Start
      (text ++ byte ∷ [])
  sum_signed_read frames sum made text byte op fits h r =
      let part : List ℕ = (r.sums ++ r.products) ++ (spaces r.gap ++ sign op ∷ []) in
      record {
        outer = r.outer;
        before = part;
        part = [];
        frames_read = r.frames_read;
        level_read = record {
          sums = part;
          products = [];
          signs = [];
          sum = record {
            left = r.sums ++ r.products;
            spelled = sum_joined sizes sum r.sums r.products made r.sum_read r.product_read;
            fits = fits;
            gap = r.gap;
            text_is = refl;
          };
          product = refl;
          minuses = refl;
          text_is = sym (append-nil part);
        };
        lexeme_read = (0, refl);
        text_is =
            let same : (r.outer ++ (r.sums ++ (r.products ++ spaces r.gap))) ++ sign op ∷ [] ≡ r.outer ++ (part ++ []) =
            simp (append_assoc, append-nil) in
            moved text _ _ byte (sign op) r.text_is h same;
      }

  product_signed_read : (frames : List Frame) (sum : Pending) (made : Expression) (text : List ℕ) (byte : ℕ) (op : Op) →
      IsProductSign op → byte ≡ sign op → OperatorRead sizes frames sum made text →
      OperandRead sizes frames (record { sum = sum; product = Some (made, op); minuses = 0 }) Start (text ++ byte ∷ [])
  product_signed_read frames sum made text byte op fits h r =
      let part : List ℕ = r.products ++ (spaces r.gap ++ sign op ∷ []) in
      record {
        outer = r.outer;
        before = r.sums ++ (part ++ []);
        part = [];
        frames_read = r.frames_read;
        level_read = record {
          sums = r.sums;
          products = part;
          signs = [];
          sum = r.sum_read;
          product = record { left = r.products; spelled = r.product_read; fits = fits; gap = r.gap; text_is = refl };
          minuses = refl;
          text_is = refl;
        };
        lexeme_read = (0, refl);
        text_is =
            let same : (r.outer ++ (r.sums ++ (r.products ++ spaces r.gap))) ++ sign op ∷ []
            ≡ r.outer ++ ((r.sums ++ (part ++ [])) ++ []) = simp (append_assoc, append-nil) in
            moved text _ _ byte (sign op) r.text_is h same;
      }

  signed_read : (frames : List Frame) (sum : Pending) (made : Expression) (text : List ℕ) (byte : ℕ) (op : Op) →
      byte ≡ sign op → OperatorRead sizes frames sum made text →
      StateRead sizes (signed frames sum made op) (text ++ byte ∷ [])
  signed_read frames sum made text byte Add h r = sum_signed_read frames sum made text byte Add tt h r
  signed_read frames sum made text byte Sub h r = sum_signed_read frames sum made text byte Sub tt h r
  signed_read frames sum made text byte Mul h r = product_signed_read frames sum made text byte Mul tt h r
  signed_read frames sum made text byte Div h r = product_signed_read frames sum made text byte Div tt h r
  signed_read frames sum made text byte Rem h r = product_signed_read frames sum made text byte Rem tt h r

  call_spelled : (f : Function) (a b c : Expression) (before argument : List ℕ) (gap : ℕ) →
      ThirdRead sizes f a b before → SumSpelled sizes argument c →
      AtomSpelled sizes (before ++ (argument ++ (spaces gap ++ 41 ∷ []))) (called_with f a b c)
  call_spelled f a b c before argument gap t s = record {
    atom = call_form t.second.first.gap f t.second.first.open_gap t.second.spelled.sum t.second.gap t.spelled.sum t.gap
        s.sum gap;
    valid = (t.second.spelled.valid, t.spelled.valid, s.valid);
    text_is =
        rw (t.text_is, t.second.text_is, t.second.first.text_is, t.second.spelled.text_is, t.spelled.text_is, s.text_is)
        (simp append_assoc);
    tree_is = cc (t.second.spelled.tree_is, t.spelled.tree_is, s.tree_is);
  }

  closed_read : (frames : List Frame) (level : Level) (opening : Opening) (e : Expression)
      (outer before part argument text : List ℕ) (gap : ℕ) → FramesRead sizes frames outer →
      LevelRead sizes level before → OpeningRead sizes opening part → SumSpelled sizes argument e
      → text ≡ outer ++ (before ++ (part ++ (argument ++ (spaces gap ++ 41 ∷ [])))) →
      Read (closed_at frames level opening e) text
  closed_read frames level Group e outer before part argument text gap fr lr o s t =
      let a : AtomSpelled sizes (part ++ (argument ++ (spaces gap ++ 41 ∷ []))) e = record {
        atom = group o.0 s.sum gap;
        valid = s.valid;
        text_is = rw (o.1, s.text_is) (simp append_assoc);
        tree_is = s.tree_is;
      } in
      completed_read sizes frames level outer before _ text e fr lr a t
  closed_read frames level (First f) e outer before part argument text gap fr lr o s t = tt
  closed_read frames level (Second f a) e outer before part argument text gap fr lr o s t = tt
  closed_read frames level (Third f a b) e outer before part argument text gap fr lr o s t =
      completed_read sizes frames level outer before _ text (called_with f a b e) fr lr
      (call_spelled f a b e part argument gap o s) t

  next_read : (frames : List Frame) (level : Level) (opening : Opening) (e : Expression)
      (outer before part argument text : List ℕ) (gap : ℕ) → FramesRead sizes frames outer →
      LevelRead sizes level before → OpeningRead sizes opening part → SumSpelled sizes argument e
      → text ≡ outer ++ (before ++ (part ++ (argument ++ (spaces gap ++ 44 ∷ [])))) →
      Read (next_at frames level opening e) text
  next_read frames level Group e outer before part argument text gap fr lr o s t = tt
  next_read frames level (First f) e outer before part argument text gap fr lr o s t =
      opened_read frames level (Second f e) outer before (part ++ (argument ++ (spaces gap ++ 44 ∷ []))) text fr lr
      (record { before = part; first = o; argument = argument; spelled = s; gap = gap; text_is = refl }) t
  next_read frames level (Second f a) e outer before part argument text gap fr lr o s t =
      opened_read frames level (Third f a e) outer before (part ++ (argument ++ (spaces gap ++ 44 ∷ []))) text fr lr
      (record { before = part; second = o; argument = argument; spelled = s; gap = gap; text_is = refl }) t
  next_read frames level (Third f a b) e outer before part argument text gap fr lr o s t = tt

  -- the text in front of a byte that ends an argument or a group
  regrouped : (text whole outer before part sums products : List ℕ) (gap byte x : ℕ) → byte ≡ x →
      whole ≡ outer ++ (before ++ part) → text ≡ whole ++ (sums ++ (products ++ spaces gap)) →
      text ++ byte ∷ [] ≡ outer ++ (before ++ (part ++ ((sums ++ products) ++ (spaces gap ++ x ∷ []))))
  regrouped text whole outer before part sums products gap byte x h w t =
      let same : ((outer ++ (before ++ part)) ++ (sums ++ (products ++ spaces gap))) ++ x ∷ []
      ≡ outer ++ (before ++ (part ++ ((sums ++ products) ++ (spaces gap ++ x ∷ [])))) = simp append_assoc in
      ap (λ a. a ++ byte ∷ []) (t ∙ ap (λ a. a ++ (sums ++ (products ++ spaces gap))) w)
      ∙ ap (λ b. ((outer ++ (before ++ part)) ++ (sums ++ (products ++ spaces gap))) ++ b ∷ []) h
      ∙ same

  at_end_read : (frames : List Frame) (sum : Pending) (made : Expression) (text : List ℕ) (byte : ℕ) (k : Kind) →
      IsKind byte k → OperatorRead sizes frames sum made text → Read (at_end frames sum made k) (text ++ byte ∷ [])
  at_end_read frames sum made text byte Space h r = record {
    outer = r.outer;
    sums = r.sums;
    products = r.products;
    frames_read = r.frames_read;
    sum_read = r.sum_read;
    product_read = r.product_read;
    gap = suc r.gap;
    text_is =
        let same : (r.outer ++ (r.sums ++ (r.products ++ spaces r.gap))) ++ 32 ∷ []
        ≡ r.outer ++ (r.sums ++ (r.products ++ (spaces r.gap ++ 32 ∷ []))) = simp append_assoc in
        moved text _ _ byte 32 r.text_is h
        (same ∙ ap (λ t. r.outer ++ (r.sums ++ (r.products ++ t))) (space_more r.gap));
  }
  at_end_read frames sum made text byte (Sign op) h r = signed_read frames sum made text byte op h r
  at_end_read frames sum made text byte Open h r = tt
  at_end_read [] sum made text byte Close h r = tt
  at_end_read (frame ∷ frames) sum made text byte Close h r =
      let f = r.frames_read in
      closed_read frames frame.level frame.opening (joined sum made) f.0 f.1 f.2 (r.sums ++ r.products)
      (text ++ byte ∷ []) r.gap f.3 f.4 f.5 (sum_joined sizes sum r.sums r.products made r.sum_read r.product_read)
      (regrouped text r.outer f.0 f.1 f.2 r.sums r.products r.gap byte 41 h f.6 r.text_is)
  at_end_read [] sum made text byte Comma h r = tt
  at_end_read (frame ∷ frames) sum made text byte Comma h r =
      let f = r.frames_read in
      next_read frames frame.level frame.opening (joined sum made) f.0 f.1 f.2 (r.sums ++ r.products)
      (text ++ byte ∷ []) r.gap f.3 f.4 f.5 (sum_joined sizes sum r.sums r.products made r.sum_read r.product_read)
      (regrouped text r.outer f.0 f.1 f.2 r.sums r.products r.gap byte 44 h f.6 r.text_is)
  at_end_read frames sum made text byte Dot h r = tt
  at_end_read frames sum made text byte (Digit d) h r = tt
  at_end_read frames sum made text byte (Letter x) h r = tt
  at_end_read frames sum made text byte Other h r = tt

  -- ---- in an operand

  at_start_read : (frames : List Frame) (level : Level) (text : List ℕ) (byte : ℕ) (k : Kind) → IsKind byte k →
      OperandRead sizes frames level Start text → Read (at_start sizes frames level k) (text ++ byte ∷ [])
  at_start_read frames level text byte Space h r =
      lexed frames level Start Start text (spaces (suc r.lexeme_read.0)) byte r
      (moved r.part (spaces r.lexeme_read.0) _ byte 32 r.lexeme_read.1 h (space_more r.lexeme_read.0))
      (suc r.lexeme_read.0, refl)
  at_start_read frames level text byte (Sign Sub) h r =
      let gap = r.lexeme_read.0 in
      let lr = r.level_read in
      record {
        outer = r.outer;
        before = lr.sums ++ (lr.products ++ (lr.signs ++ (spaces gap ++ 45 ∷ [])));
        part = [];
        frames_read = r.frames_read;
        level_read = record {
          sums = lr.sums;
          products = lr.products;
          signs = lr.signs ++ (spaces gap ++ 45 ∷ []);
          sum = lr.sum;
          product = lr.product;
          minuses = (lr.signs, gap, lr.minuses, refl);
          text_is = refl;
        };
        lexeme_read = (0, refl);
        text_is =
            let same : (lr.sums ++ (lr.products ++ lr.signs)) ++ (spaces gap ++ 45 ∷ [])
            ≡ (lr.sums ++ (lr.products ++ (lr.signs ++ (spaces gap ++ 45 ∷ [])))) ++ [] =
            simp (append_assoc, append-nil) in
            in_three text r.outer r.before r.part (spaces gap ++ 45 ∷ []) byte r.text_is
            (moved r.part (spaces gap) _ byte 45 r.lexeme_read.1 h refl)
            ∙ ap (λ b. r.outer ++ (b ++ (spaces gap ++ 45 ∷ []))) lr.text_is ∙ ap (λ b. r.outer ++ b) same;
      }
  at_start_read frames level text byte (Sign Add) h r = tt
  at_start_read frames level text byte (Sign Mul) h r = tt
  at_start_read frames level text byte (Sign Div) h r = tt
  at_start_read frames level text byte (Sign Rem) h r = tt
  at_start_read frames level text byte Open h r =
      let gap = r.lexeme_read.0 in
      opened_read frames level Group r.outer r.before (spaces gap ++ 40 ∷ []) (text ++ byte ∷ []) r.frames_read
      r.level_read (gap, refl) (in_three text r.outer r.before r.part _ byte r.text_is
      (moved r.part (spaces gap) _ byte 40 r.lexeme_read.1 h refl))
  at_start_read frames level text byte Close h r = tt
  at_start_read frames level text byte Comma h r = tt
  at_start_read frames level text byte Dot h r = tt
  at_start_read frames level text byte (Digit d) h r =
      let gap = r.lexeme_read.0 in
      lexed frames level Start (Digits d) text (spaces gap ++ decimal d) byte r
      (moved r.part (spaces gap) _ byte (48 + d) r.lexeme_read.1 h.1
      (ap (λ t. spaces gap ++ t) (sym (decimal_digit d h.0)))) (gap, omega arith, refl)
  at_start_read frames level text byte (Letter x) h r = keyword_read frames level text byte x h r
  at_start_read frames level text byte Other h r = tt

  -- a number that ends here
  number_done : (frames : List Frame) (level : Level) (n : ℕ) (text : List ℕ) →
      OperandRead sizes frames level (Digits n) text →
      OperatorRead sizes frames level.sum (factored level (number (pos n))) text
  number_done frames level n text r =
      completed_read sizes frames level r.outer r.before (atom_text (number_token r.lexeme_read.0 n)) text
      (number (pos n)) r.frames_read r.level_read (atom_of (number_token r.lexeme_read.0 n) r.lexeme_read.1)
      (r.text_is ∙ ap (λ t. r.outer ++ (r.before ++ t)) r.lexeme_read.2)

  in_digits_read : (frames : List Frame) (level : Level) (n : ℕ) (text : List ℕ) (byte : ℕ) (k : Kind) → IsKind byte k →
      OperandRead sizes frames level (Digits n) text → Read (in_digits frames level n k) (text ++ byte ∷ [])
  in_digits_read frames level n text byte (Digit d) h r =
      let gap = r.lexeme_read.0 in
      with_number_by (λ o. Read o (text ++ byte ∷ [])) (λ m. Operand frames level (Digits m)) (2 ^ 63) n d tt
      (λ some lt.
      let same : (spaces gap ++ decimal n) ++ (48 + d) ∷ [] ≡ spaces gap ++ decimal (n * 10 + d) =
      append_assoc (spaces gap) (decimal n) ((48 + d) ∷ [])
      ∙ ap (λ t. spaces gap ++ t) (decimal_more n d some h.0 (omega arith)) in
      lexed frames level (Digits n) (Digits (n * 10 + d)) text (spaces gap ++ decimal (n * 10 + d)) byte r
      (moved r.part (spaces gap ++ decimal n) _ byte (48 + d) r.lexeme_read.2 h.1 same) (gap, lt, refl))
  in_digits_read frames level n text byte Space h r =
      at_end_read frames level.sum (factored level (number (pos n))) text byte Space h
      (number_done frames level n text r)
  in_digits_read frames level n text byte (Sign op) h r =
      at_end_read frames level.sum (factored level (number (pos n))) text byte (Sign op) h
      (number_done frames level n text r)
  in_digits_read frames level n text byte Open h r =
      at_end_read frames level.sum (factored level (number (pos n))) text byte Open h
      (number_done frames level n text r)
  in_digits_read frames level n text byte Close h r =
      at_end_read frames level.sum (factored level (number (pos n))) text byte Close h
      (number_done frames level n text r)
  in_digits_read frames level n text byte Comma h r =
      at_end_read frames level.sum (factored level (number (pos n))) text byte Comma h
      (number_done frames level n text r)
  in_digits_read frames level n text byte Dot h r =
      at_end_read frames level.sum (factored level (number (pos n))) text byte Dot h (number_done frames level n text r)
  in_digits_read frames level n text byte (Letter x) h r =
      at_end_read frames level.sum (factored level (number (pos n))) text byte (Letter x) h
      (number_done frames level n text r)
  in_digits_read frames level n text byte Other h r =
      at_end_read frames level.sum (factored level (number (pos n))) text byte Other h
      (number_done frames level n text r)

  in_letters_read : (frames : List Frame) (level : Level) (name : Keyword) (next : ℕ) (rest text : List ℕ) (byte : ℕ)
      (k : Kind) → IsKind byte k → OperandRead sizes frames level (Letters name next rest) text →
      Read (in_letters frames level name next rest k) (text ++ byte ∷ [])
  in_letters_read frames level name next rest text byte (Letter x) h r =
      let l = r.lexeme_read in
      cond_by (λ o. Read o (text ++ byte ∷ [])) (nat_eq x next) _ _ (λ e.
      let is_next : byte ≡ next = h ∙ eqb-true _ _ e in
      spelled_read frames level (Letters name next rest) text byte name rest (l.done ++ next ∷ []) r l.gap l.known
      (append_assoc l.done (next ∷ []) rest ∙ l.name_is)
      (moved r.part (spaces l.gap ++ l.done) _ byte next l.text_is is_next
      (append_assoc (spaces l.gap) l.done (next ∷ [])))) (λ _. tt)
  in_letters_read frames level name next rest text byte _ h r = tt

  in_input_read : (frames : List Frame) (level : Level) (text : List ℕ) (byte : ℕ) (k : Kind) → IsKind byte k →
      OperandRead sizes frames level InputDigit text → Read (in_input sizes frames level k) (text ++ byte ∷ [])
  in_input_read frames level text byte (Digit d) h r =
      let gap = r.lexeme_read.0 in
      cond_by (λ o. Read o (text ++ byte ∷ [])) (nat_lt d sizes.width) _ _ (λ e.
      lexed_to_end frames level InputDigit text (atom_text (input_token gap d)) byte (input d) r
      (moved r.part (spaces gap ++ codes "in") _ byte (48 + d) r.lexeme_read.2 h.1
      (append_assoc (spaces gap) (codes "in") ((48 + d) ∷ []))) (atom_of (input_token gap d) (h.0, ltb-true _ _ e)))
      (λ _. tt)
  in_input_read frames level text byte _ h r = tt

  at_block_read : (frames : List Frame) (level : Level) (text : List ℕ) (byte : ℕ) (k : Kind) → IsKind byte k →
      OperandRead sizes frames level BlockStart text → Read (at_block sizes frames level k) (text ++ byte ∷ [])
  at_block_read frames level text byte (Digit d) h r =
      let gap = r.lexeme_read.0 in
      cond_by (λ o. Read o (text ++ byte ∷ [])) (nat_lt d sizes.blocks) _ _ (λ e.
      let same : (spaces gap ++ codes "b") ++ (48 + d) ∷ [] ≡ spaces gap ++ (codes "b" ++ decimal d) =
      append_assoc (spaces gap) (codes "b") ((48 + d) ∷ [])
      ∙ ap (λ t. spaces gap ++ (codes "b" ++ t)) (sym (decimal_digit d h.0)) in
      lexed frames level BlockStart (BlockDigits d) text (spaces gap ++ (codes "b" ++ decimal d)) byte r
      (moved r.part (spaces gap ++ codes "b") _ byte (48 + d) r.lexeme_read.2 h.1 same) (gap, ltb-true _ _ e, refl))
      (λ _. tt)
  at_block_read frames level text byte _ h r = tt

  in_block_read : (frames : List Frame) (level : Level) (n : ℕ) (text : List ℕ) (byte : ℕ) (k : Kind) → IsKind byte k →
      OperandRead sizes frames level (BlockDigits n) text → Read (in_block sizes frames level n k) (text ++ byte ∷ [])
  in_block_read frames level n text byte (Digit d) h r =
      let gap = r.lexeme_read.0 in
      with_number_by (λ o. Read o (text ++ byte ∷ [])) (λ m. Operand frames level (BlockDigits m)) sizes.blocks n d tt
      (λ some lt.
      let regroup : (spaces gap ++ (codes "b" ++ decimal n)) ++ (48 + d) ∷ []
      ≡ spaces gap ++ (codes "b" ++ (decimal n ++ (48 + d) ∷ [])) = simp append_assoc in
      let same = regroup ∙ ap (λ t. spaces gap ++ (codes "b" ++ t)) (decimal_more n d some h.0 (omega arith)) in
      lexed frames level (BlockDigits n) (BlockDigits (n * 10 + d)) text
      (spaces gap ++ (codes "b" ++ decimal (n * 10 + d))) byte r
      (moved r.part (spaces gap ++ (codes "b" ++ decimal n)) _ byte (48 + d) r.lexeme_read.2 h.1 same)
      (gap, lt, refl))
  in_block_read frames level n text byte Dot h r =
      let gap = r.lexeme_read.0 in
      let same : (spaces gap ++ (codes "b" ++ decimal n)) ++ 46 ∷ []
      ≡ spaces gap ++ (codes "b" ++ (decimal n ++ 46 ∷ [])) = simp append_assoc in
      lexed frames level (BlockDigits n) (WordDigit n) text _ byte r
      (moved r.part (spaces gap ++ (codes "b" ++ decimal n)) _ byte 46 r.lexeme_read.2 h same)
      (gap, r.lexeme_read.1, refl)
  in_block_read frames level n text byte _ h r = tt

  in_word_read : (frames : List Frame) (level : Level) (n : ℕ) (text : List ℕ) (byte : ℕ) (k : Kind) → IsKind byte k →
      OperandRead sizes frames level (WordDigit n) text → Read (in_word frames level n k) (text ++ byte ∷ [])
  in_word_read frames level n text byte (Digit d) h r =
      let gap = r.lexeme_read.0 in
      cond_by (λ o. Read o (text ++ byte ∷ [])) (nat_lt d 8) _ _ (λ e.
      let same : (spaces gap ++ (codes "b" ++ (decimal n ++ 46 ∷ []))) ++ (48 + d) ∷ []
      ≡ atom_text (word_token gap n d) = simp append_assoc in
      lexed_to_end frames level (WordDigit n) text (atom_text (word_token gap n d)) byte (block_word n d) r
      (moved r.part (spaces gap ++ (codes "b" ++ (decimal n ++ 46 ∷ []))) _ byte (48 + d) r.lexeme_read.2 h.1 same)
      (atom_of (word_token gap n d) (r.lexeme_read.1, ltb-true _ _ e))) (λ _. tt)
  in_word_read frames level n text byte _ h r = tt

  at_parenthesis_read : (frames : List Frame) (level : Level) (f : Function) (text : List ℕ) (byte : ℕ) (k : Kind) →
      IsKind byte k → OperandRead sizes frames level (Parenthesis f) text →
      Read (at_parenthesis frames level f k) (text ++ byte ∷ [])
  at_parenthesis_read frames level f text byte Space h r =
      let l = r.lexeme_read in
      let regroup : (spaces l.0 ++ (letters f ++ spaces l.1)) ++ 32 ∷ []
      ≡ spaces l.0 ++ (letters f ++ (spaces l.1 ++ 32 ∷ [])) = simp append_assoc in
      lexed frames level (Parenthesis f) (Parenthesis f) text (spaces l.0 ++ (letters f ++ spaces (suc l.1))) byte r
      (moved r.part (spaces l.0 ++ (letters f ++ spaces l.1)) _ byte 32 l.2 h
      (regroup ∙ ap (λ t. spaces l.0 ++ (letters f ++ t)) (space_more l.1))) (l.0, suc l.1, refl)
  at_parenthesis_read frames level f text byte Open h r =
      let l = r.lexeme_read in
      let part : List ℕ = spaces l.0 ++ (letters f ++ (spaces l.1 ++ 40 ∷ [])) in
      let regroup : (spaces l.0 ++ (letters f ++ spaces l.1)) ++ 40 ∷ [] ≡ part = simp append_assoc in
      opened_read frames level (First f) r.outer r.before part (text ++ byte ∷ []) r.frames_read r.level_read
      (record { gap = l.0; open_gap = l.1; text_is = refl })
      (in_three text r.outer r.before r.part part byte r.text_is
      (moved r.part (spaces l.0 ++ (letters f ++ spaces l.1)) part byte 40 l.2 h regroup))
  at_parenthesis_read frames level f text byte _ h r = tt

  after_read : (s : State) (text : List ℕ) (byte : ℕ) (k : Kind) → IsKind byte k → StateRead sizes s text →
      Read (after sizes s k) (text ++ byte ∷ [])
  after_read (Operand frames level Start) text byte k h r = at_start_read frames level text byte k h r
  after_read (Operand frames level (Digits n)) text byte k h r = in_digits_read frames level n text byte k h r
  after_read (Operand frames level (Letters name next rest)) text byte k h r =
      in_letters_read frames level name next rest text byte k h r
  after_read (Operand frames level InputDigit) text byte k h r = in_input_read frames level text byte k h r
  after_read (Operand frames level BlockStart) text byte k h r = at_block_read frames level text byte k h r
  after_read (Operand frames level (BlockDigits n)) text byte k h r = in_block_read frames level n text byte k h r
  after_read (Operand frames level (WordDigit n)) text byte k h r = in_word_read frames level n text byte k h r
  after_read (Operand frames level (Parenthesis f)) text byte k h r = at_parenthesis_read frames level f text byte k h r
  after_read (Operator frames sum made) text byte k h r = at_end_read frames sum made text byte k h r

  -- ---- whole texts

  pub run_read : (bytes text : List ℕ) (s : State) → StateRead sizes s text → Read (run sizes bytes s) (text ++ bytes)
  run_read [] text s r = subst (λ t. StateRead sizes s t) (sym (append-nil text)) r
  run_read (byte ∷ bytes) text s r =
      subst (λ t. Read (run sizes (byte ∷ bytes) s) t) (append_assoc text (byte ∷ []) bytes)
      (go (run_read bytes (text ++ byte ∷ [])) (after sizes s (byte_kind byte))
      (after_read s text byte (byte_kind byte) (is_kind byte) r))
    where
      go : ((t : State) → StateRead sizes t (text ++ byte ∷ []) →
          Read (run sizes bytes t) ((text ++ byte ∷ []) ++ bytes)) → (o : Option State) → Read o (text ++ byte ∷ []) →
          Read (and_then (run sizes bytes) o) ((text ++ byte ∷ []) ++ bytes)
      go ih None r = tt
      go ih (Some t) r = ih t r

  pub initial_read : StateRead sizes initial []
  initial_read = record {
    outer = [];
    before = [];
    part = [];
    frames_read = refl;
    level_read = fresh_read;
    lexeme_read = (0, refl);
    text_is = refl;
  }

  abbrev OptionSpells : Option Expression → List ℕ → Type 0
  OptionSpells None text = Unit {0}
  OptionSpells (Some e) text = SpellsExpression sizes text e

  ended : (frames : List Frame) (sum : Pending) (made : Expression) (text : List ℕ) →
      OperatorRead sizes frames sum made text → OptionSpells (finished_in frames (joined sum made)) text
  ended [] sum made text r =
      let s = sum_joined sizes sum r.sums r.products made r.sum_read r.product_read in
      record {
        sum = s.sum;
        valid = s.valid;
        end_gap = r.gap;
        text_is =
            let same : r.sums ++ (r.products ++ spaces r.gap) ≡ (r.sums ++ r.products) ++ spaces r.gap =
            sym (append_assoc r.sums r.products (spaces r.gap)) in
            r.text_is ∙ ap (λ t. t ++ (r.sums ++ (r.products ++ spaces r.gap))) r.frames_read ∙ same
            ∙ ap (λ t. t ++ spaces r.gap) s.text_is;
        tree_is = s.tree_is;
      }
  ended (frame ∷ frames) sum made text r = tt

  finished_spells : (s : State) (text : List ℕ) → StateRead sizes s text → OptionSpells (finished s) text
  finished_spells (Operator frames sum made) text r = ended frames sum made text r
  finished_spells (Operand frames level (Digits n)) text r =
      ended frames level.sum (factored level (number (pos n))) text (number_done frames level n text r)
  finished_spells (Operand frames level _) text r = tt

  -- what is read is in the grammar, as what it is read
  pub sound : (text : List ℕ) (e : Expression) → read sizes text initial ≡ Some e → SpellsExpression sizes text e
  sound text e h = subst (λ o. OptionSpells o text) h
      (go (run sizes text initial) (run_read text [] initial initial_read))
    where
      go : (o : Option State) → Read o text → OptionSpells (and_then finished o) text
      go None r = tt
      go (Some s) r = finished_spells s text r
