-- Each state can be completed, and what leads to none can not: so the reader stops right behind the
-- longest front of the text that some text of the grammar begins with.
use Rattle.std.proofs.Common.{◌≡◌, ℕ, zero, suc, ◌+◌, ◌-◌, ◌^◌, ◌<◌, ◌≤◌, pos, List, [], ◌∷◌, ◌++◌, length, take, Bool, true, false, cond, Option, Some, None, refl, sym, ap, ◌∙◌, subst, append_assoc, arith, codes, nat_lt, nat_eq}
use Rattle.std.proofs.lemmas.Bool.{lt-ltb, eq-eqb, cases_lt}
use Rattle.std.proofs.lemmas.List.{length-append}
use Rattle.guards_model.specs.declared.Code.TheVariants.{Sat, Mid, Ramp}
use Rattle.guards_model.specs.Expressions.{Expression, number, cycle_number, input, block_word}
use Rattle.expr_text.specs.declared.state.Sizes.{Sizes}
use Rattle.expr_text.specs.declared.word.Function.{Function}
use Rattle.expr_text.specs.declared.word.Function.TheVariants as called
use Rattle.expr_text.specs.declared.word.Keyword.{Keyword}
use Rattle.expr_text.specs.declared.word.Keyword.TheVariants as keyword
use Rattle.expr_text.specs.declared.word.Kind.TheVariants.{Letter}
use Rattle.expr_text.specs.Grammar.{called_with, IsInGrammar, IsViable, IsLongestViable}
use Rattle.expr_text.specs.Names.{first_letter, other_letters}
use Rattle.expr_text.specs.Reading.{Pending, Level, Frame, Opening, State, Operand, Operator, Start, Digits, Letters, InputDigit, BlockStart, BlockDigits, WordDigit, Parenthesis, Group, First, Second, Third, initial, joined, factored, completed, named, keyword_spelled, after, byte_kind, run, read, and_then, finished}
use Rattle.expr_text.proofs.Runs.{run-append, EndsNumber, number_ended}
use Rattle.expr_text.proofs.Complete.{complete}
use Rattle.expr_text.proofs.Pieces.{Exists, StateRead, OptionRead}
use Rattle.expr_text.proofs.Sound.{run_read, initial_read, sound}

abbrev AreLetters : List ℕ → Type 0
AreLetters [] = Unit {0}
AreLetters (x ∷ xs) = (byte_kind x ≡ Letter x) × AreLetters xs

letters_behind : (done rest : List ℕ) → AreLetters (done ++ rest) → AreLetters rest
letters_behind [] rest h = h
letters_behind (x ∷ done) rest h = letters_behind done rest h.1

name_letters : (k : Keyword) → AreLetters (first_letter k ∷ other_letters k)
name_letters keyword.Cycle = (refl, (refl, (refl, (refl, (refl, tt)))))
name_letters keyword.Input = (refl, (refl, tt))
name_letters keyword.Block = (refl, tt)
name_letters (keyword.Call (called.Native Sat)) = (refl, (refl, (refl, tt)))
name_letters (keyword.Call (called.Native Mid)) = (refl, (refl, (refl, tt)))
name_letters (keyword.Call (called.Native Ramp)) = (refl, (refl, (refl, (refl, tt))))
name_letters (keyword.Call called.Pick) = (refl, (refl, (refl, (refl, tt))))

module _ (sizes : Sizes) (few_blocks : sizes.blocks ≤ 256) where
  -- some bytes complete an expression from here on
  record Closes (s : State) : Type 0 where
    rest : List ℕ
    ends : EndsNumber rest
    e : Expression
    reads : read sizes rest s ≡ Some e

  close_at : (opening : Opening) (frames : List Frame) (level : Level) (sum : Pending) (made : Expression) →
      ((sum : Pending) (made : Expression) → Closes (Operator frames sum made)) →
      Closes (Operator (record { opening = opening; level = level } ∷ frames) sum made)
  close_at Group frames level sum made outer =
      let c = outer level.sum (factored level (joined sum made)) in
      record { rest = 41 ∷ c.rest; ends = tt; e = c.e; reads = c.reads }
  close_at (Third f a b) frames level sum made outer =
      let c = outer level.sum (factored level (called_with f a b (joined sum made))) in
      record { rest = 41 ∷ c.rest; ends = tt; e = c.e; reads = c.reads }
  close_at (Second f a) frames level sum made outer =
      let c = outer level.sum (factored level (called_with f a (joined sum made) (number (pos 0)))) in
      record { rest = 44 ∷ 48 ∷ 41 ∷ c.rest; ends = tt; e = c.e; reads = c.reads }
  close_at (First f) frames level sum made outer =
      let c = outer level.sum (factored level (called_with f (joined sum made) (number (pos 0)) (number (pos 0)))) in
      record { rest = 44 ∷ 48 ∷ 44 ∷ 48 ∷ 41 ∷ c.rest; ends = tt; e = c.e; reads = c.reads }

  close : (frames : List Frame) (sum : Pending) (made : Expression) → Closes (Operator frames sum made)
  close [] sum made = record { rest = []; ends = tt; e = joined sum made; reads = refl }
  close (frame ∷ frames) sum made = close_at frame.opening frames frame.level sum made (close frames)

  -- bytes that lead on to a state that closes
  leads : (text : List ℕ) (s t : State) (c : Closes t) → EndsNumber (text ++ c.rest) →
      run sizes (text ++ c.rest) s ≡ run sizes c.rest t → Closes s
  leads text s t c ends e =
      record { rest = text ++ c.rest; ends = ends; e = c.e; reads = ap (and_then finished) e ∙ c.reads }

  -- a byte that may be a digit stands first, so that nothing is said of what it would end
  record Finishes (s : State) : Type 0 where
    rest : List ℕ
    e : Expression
    reads : read sizes rest s ≡ Some e

  finishes : (text : List ℕ) (s t : State) (c : Closes t) → run sizes (text ++ c.rest) s ≡ run sizes c.rest t →
      Finishes s
  finishes text s t c e = record { rest = text ++ c.rest; e = c.e; reads = ap (and_then finished) e ∙ c.reads }

  finish_parenthesis : (frames : List Frame) (level : Level) (f : Function) →
      Finishes (Operand frames level (Parenthesis f))
  finish_parenthesis frames level f =
      finishes (40 ∷ 48 ∷ 44 ∷ 48 ∷ 44 ∷ 48 ∷ 41 ∷ []) (Operand frames level (Parenthesis f))
      (completed frames level (called_with f (number (pos 0)) (number (pos 0)) (number (pos 0))))
      (close frames level.sum (factored level (called_with f (number (pos 0)) (number (pos 0)) (number (pos 0)))))
      refl

  finish_input : (frames : List Frame) (level : Level) → 0 < sizes.width → Finishes (Operand frames level InputDigit)
  finish_input frames level some =
      let c = close frames level.sum (factored level (input 0)) in
      finishes (48 ∷ []) (Operand frames level InputDigit) (completed frames level (input 0)) c
      (rw (lt-ltb 0 sizes.width some) refl)

  finish_word : (frames : List Frame) (level : Level) (n : ℕ) → Finishes (Operand frames level (WordDigit n))
  finish_word frames level n =
      finishes (48 ∷ []) (Operand frames level (WordDigit n)) (completed frames level (block_word n 0))
      (close frames level.sum (factored level (block_word n 0))) refl

  finish_block : (frames : List Frame) (level : Level) (n : ℕ) → Finishes (Operand frames level (BlockDigits n))
  finish_block frames level n =
      finishes (46 ∷ 48 ∷ []) (Operand frames level (BlockDigits n)) (completed frames level (block_word n 0))
      (close frames level.sum (factored level (block_word n 0))) refl

  finish_block_start : (frames : List Frame) (level : Level) → 0 < sizes.blocks →
      Finishes (Operand frames level BlockStart)
  finish_block_start frames level some =
      let c = close frames level.sum (factored level (block_word 0 0)) in
      finishes (48 ∷ 46 ∷ 48 ∷ []) (Operand frames level BlockStart) (completed frames level (block_word 0 0)) c
      (rw (lt-ltb 0 sizes.blocks some) refl)

  finish_named : (frames : List Frame) (level : Level) (k : Keyword) → Exists sizes k → Finishes (named frames level k)
  finish_named frames level keyword.Cycle h = let c = close frames level.sum (factored level cycle_number) in
      record { rest = c.rest; e = c.e; reads = c.reads }
  finish_named frames level keyword.Input h = finish_input frames level h
  finish_named frames level keyword.Block h = finish_block_start frames level h
  finish_named frames level (keyword.Call f) h = finish_parenthesis frames level f

  spelled_run : (frames : List Frame) (level : Level) (k : Keyword) (rest more : List ℕ) → AreLetters rest →
      run sizes (rest ++ more) (keyword_spelled frames level k rest) ≡ run sizes more (named frames level k)
  spelled_run frames level k [] more h = refl
  spelled_run frames level k (x ∷ rest) more h =
      ap (λ y. and_then (run sizes (rest ++ more)) (after sizes (Operand frames level (Letters k x rest)) y)) h.0
      ∙ ap (λ b. and_then (run sizes (rest ++ more)) (cond b (Some (keyword_spelled frames level k rest)) None))
      (eq-eqb x x refl)
      ∙ spelled_run frames level k rest more h.1

  finish : (s : State) (text : List ℕ) → StateRead sizes s text → Finishes s
  finish (Operator frames sum made) text r = let c = close frames sum made in
      record { rest = c.rest; e = c.e; reads = c.reads }
  finish (Operand frames level Start) text r =
      let c = close frames level.sum (factored level (number (pos 0))) in
      record { rest = 48 ∷ c.rest; e = c.e; reads = number_ended sizes frames level 0 c.rest c.ends ∙ c.reads }
  finish (Operand frames level (Digits n)) text r =
      let c = close frames level.sum (factored level (number (pos n))) in
      record { rest = c.rest; e = c.e; reads = number_ended sizes frames level n c.rest c.ends ∙ c.reads }
  finish (Operand frames level (Letters k next rest)) text r =
      let l = r.lexeme_read in
      let f = finish_named frames level k l.known in
      let whole : AreLetters (l.done ++ next ∷ rest) = subst AreLetters (sym l.name_is) (name_letters k) in
      record {
        rest = (next ∷ rest) ++ f.rest;
        e = f.e;
        reads = ap (and_then finished)
            (spelled_run frames level k (next ∷ rest) f.rest (letters_behind l.done (next ∷ rest) whole)) ∙ f.reads;
      }
  finish (Operand frames level InputDigit) text r = finish_input frames level r.lexeme_read.1
  finish (Operand frames level BlockStart) text r = finish_block_start frames level r.lexeme_read.1
  finish (Operand frames level (BlockDigits n)) text r = finish_block frames level n
  finish (Operand frames level (WordDigit n)) text r = finish_word frames level n
  finish (Operand frames level (Parenthesis f)) text r = finish_parenthesis frames level f

  read_behind : (front rest : List ℕ) (o : Option State) → run sizes front initial ≡ o →
      read sizes (front ++ rest) initial ≡ and_then finished (and_then (run sizes rest) o)
  read_behind front rest o h =
      ap (and_then finished) (run-append sizes front rest initial ∙ ap (and_then (run sizes rest)) h)

  pub viable : (front : List ℕ) (s : State) → run sizes front initial ≡ Some s → IsViable sizes front
  viable front s h =
      let r : StateRead sizes s front =
      subst (λ o. OptionRead sizes o front) h
      (run_read sizes few_blocks front [] initial (initial_read sizes few_blocks)) in
      let f = finish s front r in
      (f.rest, (f.e, sound sizes few_blocks (front ++ f.rest) f.e (read_behind front f.rest (Some s) h ∙ f.reads)))

  pub not_viable : (front : List ℕ) → run sizes front initial ≡ None → IsViable sizes front → ⊥
  not_viable front h v =
      let none : read sizes (front ++ v.0) initial ≡ None = read_behind front v.0 None h in
      let some : read sizes (front ++ v.0) initial ≡ Some v.1.0 =
      complete sizes few_blocks (front ++ v.0) v.1.0 v.1.1 in
      cc

  take_whole : (text : List ℕ) → take (length text) text ≡ text
  take_whole [] = refl
  take_whole (x ∷ xs) = ap (λ t. x ∷ t) (take_whole xs)

  take_front : (front rest : List ℕ) → take (length front) (front ++ rest) ≡ front
  take_front [] rest = refl
  take_front (x ∷ xs) rest = ap (λ t. x ∷ t) (take_front xs rest)

  take_past : (front rest : List ℕ) (byte n : ℕ) → length front < n →
      (more : List ℕ) × (take n (front ++ byte ∷ rest) ≡ front ++ byte ∷ more)
  take_past [] rest byte zero lt = absurd (omega arith)
  take_past [] rest byte (suc n) lt = (take n rest, refl)
  take_past (x ∷ xs) rest byte zero lt = absurd (omega arith)
  take_past (x ∷ xs) rest byte (suc n) lt = let m = take_past xs rest byte n (omega arith) in (m.0, ap (λ t. x ∷ t) m.1)

  -- the reader has no state behind this byte
  pub stops : (front more : List ℕ) (byte : ℕ) (s : State) → run sizes front initial ≡ Some s →
      after sizes s (byte_kind byte) ≡ None → run sizes (front ++ byte ∷ more) initial ≡ None
  stops front more byte s h e =
      run-append sizes front (byte ∷ more) initial ∙ ap (and_then (run sizes (byte ∷ more))) h
      ∙ ap (and_then (run sizes more)) e

  pub stopped : (front rest : List ℕ) (byte : ℕ) (s : State) → run sizes front initial ≡ Some s →
      after sizes s (byte_kind byte) ≡ None → IsLongestViable sizes (front ++ byte ∷ rest) (length front)
  stopped front rest byte s h e = record {
    within = omega (arith, length-append front (byte ∷ rest));
    viable = subst (IsViable sizes) (sym (take_front front (byte ∷ rest))) (viable front s h);
    longest = λ n within v.
        elim (cases_lt (length front) n) [
          | Rattle.std.proofs.Common.inl lt ↦
              let m = take_past front rest byte n lt in
              absurd (not_viable (front ++ byte ∷ m.0) (stops front m.0 byte s h e) (subst (IsViable sizes) m.1 v))
          | Rattle.std.proofs.Common.inr le ↦ le
        ];
  }

  pub not_in_grammar : (text : List ℕ) → read sizes text initial ≡ None → IsInGrammar sizes text → ⊥
  not_in_grammar text h g = let some = complete sizes few_blocks text g.0 g.1 in let both : Some g.0 ≡ None =
      sym some ∙ h in cc

  pub ended_early : (text : List ℕ) (s : State) → run sizes text initial ≡ Some s →
      IsLongestViable sizes text (length text)
  ended_early text s h = record {
    within = omega arith;
    viable = subst (IsViable sizes) (sym (take_whole text)) (viable text s h);
    longest = λ n within v. within;
  }
