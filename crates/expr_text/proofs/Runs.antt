-- How the reader goes over spaces, numbers and names.
use Rattle.std.proofs.Common.{◌≡◌, ℕ, zero, suc, ◌+◌, ◌*◌, ◌/◌, ◌%◌, ◌^◌, ◌<◌, ◌≤◌, pos, List, [], ◌∷◌, ◌++◌, Option, Some, None, refl, ap, ◌∙◌, append_assoc, arith}
use Rattle.std.specs.Fmt.{decimal}
use Rattle.std.proofs.lemmas.Fmt.{decimal_by_steps}
use Rattle.std.proofs.lemmas.Bool.{lt-ltb}
use Rattle.guards_model.specs.declared.Op.{Op}
use Rattle.guards_model.specs.declared.Op.TheVariants.{Add, Sub, Mul, Div, Rem}
use Rattle.guards_model.specs.Expressions.{Expression, number}
use Rattle.expr_text.specs.declared.state.Sizes.{Sizes}
use Rattle.expr_text.specs.declared.word.Function.{Function}
use Rattle.expr_text.specs.declared.word.Kind.{Kind}
use Rattle.expr_text.specs.declared.word.Kind.TheVariants.{Space, Sign, Open, Close, Comma, Dot, Digit, Letter, Other}
use Rattle.expr_text.specs.Grammar.{spaces, sign}
use Rattle.expr_text.specs.Reading.{Pending, Level, Frame, State, Operand, Operator, Start, Digits, Parenthesis, completed, after, byte_kind, run, read, and_then, with_digit, with_number, in_digits, at_end, factored, finished}

pub run-append : (sizes : Sizes) (a b : List ℕ) (s : State) →
    run sizes (a ++ b) s ≡ and_then (run sizes b) (run sizes a s)
run-append sizes [] b s = refl
run-append sizes (c ∷ cs) b s = go (run-append sizes cs b) (after sizes s (byte_kind c))
  where
    go : ((t : State) → run sizes (cs ++ b) t ≡ and_then (run sizes b) (run sizes cs t)) → (o : Option State) →
        and_then (run sizes (cs ++ b)) o ≡ and_then (run sizes b) (and_then (run sizes cs) o)
    go ih None = refl
    go ih (Some t) = ih t

pub kind_digit : (d : ℕ) → d < 10 → byte_kind (48 + d) ≡ Digit d
kind_digit zero h = refl
kind_digit (suc zero) h = refl
kind_digit (suc (suc zero)) h = refl
kind_digit (suc (suc (suc zero))) h = refl
kind_digit (suc (suc (suc (suc zero)))) h = refl
kind_digit (suc (suc (suc (suc (suc zero))))) h = refl
kind_digit (suc (suc (suc (suc (suc (suc zero)))))) h = refl
kind_digit (suc (suc (suc (suc (suc (suc (suc zero))))))) h = refl
kind_digit (suc (suc (suc (suc (suc (suc (suc (suc zero)))))))) h = refl
kind_digit (suc (suc (suc (suc (suc (suc (suc (suc (suc zero))))))))) h = refl
kind_digit (suc (suc (suc (suc (suc (suc (suc (suc (suc (suc d)))))))))) h = absurd (omega arith)

-- what may stand behind a number: the end, or no digit
abbrev pub IsNoDigit : Kind → Type 0
IsNoDigit (Digit d) = ⊥
IsNoDigit _ = Unit {0}

abbrev pub EndsNumber : List ℕ → Type 0
EndsNumber [] = Unit {0}
EndsNumber (c ∷ cs) = IsNoDigit (byte_kind c)

module _ (sizes : Sizes) where
  pub start_spaces : (n : ℕ) (rest : List ℕ) (frames : List Frame) (level : Level) →
      run sizes (spaces n ++ rest) (Operand frames level Start) ≡ run sizes rest (Operand frames level Start)
  start_spaces zero rest frames level = refl
  start_spaces (suc n) rest frames level = start_spaces n rest frames level

  pub end_spaces : (n : ℕ) (rest : List ℕ) (frames : List Frame) (sum : Pending) (product : Expression) →
      run sizes (spaces n ++ rest) (Operator frames sum product) ≡ run sizes rest (Operator frames sum product)
  end_spaces zero rest frames sum product = refl
  end_spaces (suc n) rest frames sum product = end_spaces n rest frames sum product

  pub name_spaces : (n : ℕ) (rest : List ℕ) (frames : List Frame) (level : Level) (f : Function) →
      run sizes (spaces n ++ rest) (Operand frames level (Parenthesis f))
      ≡ run sizes rest (Operand frames level (Parenthesis f))
  name_spaces zero rest frames level f = refl
  name_spaces (suc n) rest frames level f = name_spaces n rest frames level f

  -- a number ends where something else than a digit comes
  at_no_digit : (frames : List Frame) (level : Level) (n : ℕ) (k : Kind) → IsNoDigit k →
      in_digits frames level n k ≡ at_end frames level.sum (factored level (number (pos n))) k
  at_no_digit frames level n Space h = refl
  at_no_digit frames level n (Sign op) h = refl
  at_no_digit frames level n Open h = refl
  at_no_digit frames level n Close h = refl
  at_no_digit frames level n Comma h = refl
  at_no_digit frames level n Dot h = refl
  at_no_digit frames level n (Digit d) h = absurd h
  at_no_digit frames level n (Letter x) h = refl
  at_no_digit frames level n Other h = refl

  pub number_ended : (frames : List Frame) (level : Level) (n : ℕ) (rest : List ℕ) → EndsNumber rest →
      read sizes rest (Operand frames level (Digits n)) ≡ read sizes rest (completed frames level (number (pos n)))
  number_ended frames level n [] h = refl
  number_ended frames level n (c ∷ cs) h =
      ap (λ o. and_then finished (and_then (run sizes cs) o)) (at_no_digit frames level n (byte_kind c) h)

  pub ends_behind : (gap : ℕ) (op : Op) (rest : List ℕ) → EndsNumber (spaces gap ++ sign op ∷ rest)
  ends_behind zero Add rest = tt
  ends_behind zero Sub rest = tt
  ends_behind zero Mul rest = tt
  ends_behind zero Div rest = tt
  ends_behind zero Rem rest = tt
  ends_behind (suc gap) op rest = tt

  pub ends_at : (gap c : ℕ) (rest : List ℕ) → IsNoDigit (byte_kind c) → EndsNumber (spaces gap ++ c ∷ rest)
  ends_at zero c rest h = h
  ends_at (suc gap) c rest h = tt

  longer_is : (limit n d : ℕ) → 0 < n → n * 10 + d < limit → with_digit limit n d ≡ Some (n * 10 + d)
  longer_is limit zero d h lt = absurd (omega arith)
  longer_is limit (suc n) d h lt = rw (lt-ltb (suc n * 10 + d) limit lt) refl

  -- a lexeme that reads a number: from its start, and digit by digit
  pub record ReadsNumber (limit : ℕ) (start : State) (go : ℕ → State) : Type 0 where
    pub first : (d : ℕ) → d < 10 → d < limit → after sizes start (Digit d) ≡ Some (go d)
    pub more : (n d : ℕ) → after sizes (go n) (Digit d) ≡ with_number go (with_digit limit n d)

  module _ (limit : ℕ) (start : State) (go : ℕ → State) (reads : ReadsNumber limit start go) where
    abbrev Reaches : ℕ → List ℕ → Type 0
    Reaches n digits = n < limit → (rest : List ℕ) → run sizes (digits ++ rest) start ≡ run sizes rest (go n)

    one_digit : (n : ℕ) → n < 10 → Reaches n ((48 + n) ∷ [])
    one_digit n small lt rest =
        ap (λ k. and_then (run sizes rest) (after sizes start k)) (kind_digit n small)
        ∙ ap (and_then (run sizes rest)) (reads.first n small lt)

    more_digits : (n : ℕ) (digits : List ℕ) → 10 ≤ n → Reaches (n / 10) digits →
        Reaches n (digits ++ (48 + n % 10) ∷ [])
    more_digits n digits big before lt rest =
        let whole : n / 10 * 10 + n % 10 ≡ n = omega arith in
        let below : n / 10 * 10 + n % 10 < limit = omega arith in
        let digit : n % 10 < 10 = omega arith in
        ap (λ t. run sizes t start) (append_assoc digits ((48 + n % 10) ∷ []) rest)
        ∙ before (omega arith) ((48 + n % 10) ∷ rest)
        ∙ ap (λ k. and_then (run sizes rest) (after sizes (go (n / 10)) k)) (kind_digit (n % 10) digit)
        ∙ ap (and_then (run sizes rest))
        (reads.more (n / 10) (n % 10)
        ∙ ap (with_number go) (longer_is limit (n / 10) (n % 10) (omega arith) below ∙ ap Some whole))

    pub number_read : (n : ℕ) → n < 2 ^ 64 → n < limit → (rest : List ℕ) →
        run sizes (decimal n ++ rest) start ≡ run sizes rest (go n)
    number_read n wide = decimal_by_steps Reaches one_digit more_digits n wide
