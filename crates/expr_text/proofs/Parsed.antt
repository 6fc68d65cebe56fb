-- Parsing as a function says what holds of the text, so it is the answer.
use Rattle.std.proofs.Common.{◌≡◌, ℕ, zero, suc, ◌+◌, ◌<◌, ◌≤◌, Bool, true, false, cond, ◌&&◌, ◌⊎◌, List, [], ◌∷◌, length, take, drop, get_or, Option, Some, None, Result, Ok, Err, refl, sym, ap, ◌∙◌, subst, arith, inl, inr}
use Rattle.std.specs.Prelude.{nat_lt, nat_le}
use Rattle.std.proofs.lemmas.Bool.{leb-true}
use Rattle.guards_model.specs.Expressions.{Expression}
use Rattle.expr_core.specs.Size.{node_count, tree_depth}
use Rattle.expr_core.specs.declared.expr.Expr.{Expr}
use Rattle.expr_core.specs.Tree.{tree}
use Rattle.expr_text.specs.declared.fault.ExprFault.{ExprFault}
use Rattle.expr_text.specs.declared.fault.ExprFault.TheVariants.{TooLong, Grammar, TooLarge, Memory}
use Rattle.expr_text.specs.declared.state.Sizes.{Sizes}
use Rattle.expr_text.specs.Grammar.{SpellsExpression}
use Rattle.expr_text.specs.Reading.{State, initial, after, byte_kind, finished, run}
use Rattle.expr_text.specs.Parsing.{IsSmall, IsLarge, IsRefusedAt, IsTooLarge, IsRead, Explains, Parses, IsFault}
use Rattle.expr_text.specs.Parsed.{ended, gone_on, read_from, within_size, parsed, IsAnswerOf}
use Rattle.expr_text.proofs.Complete.{unambiguous}
use Rattle.expr_text.proofs.Scan.{run_step, refused_here, refused_at_end, spelled_at_end}
use Rattle.expr_text.proofs.Verdicts.{clash, of_too_long, of_refused, of_too_large}

module _ (sizes : Sizes) (few_blocks : sizes.blocks ≤ 256) (text : List ℕ) where
  -- what reading says of the text
  abbrev ReadSays : Result Expression ExprFault → Type 0
  ReadSays (Ok e) = SpellsExpression sizes text e
  ReadSays (Err TooLong) = ⊥
  ReadSays (Err (Grammar at)) = IsRefusedAt sizes text at
  ReadSays (Err (TooLarge n d)) = ⊥
  ReadSays (Err Memory) = ⊥

  abbrev Says : Result Expression ExprFault → Type 0
  Says (Ok e) = IsRead sizes text e
  Says (Err TooLong) = 1100 < length text
  Says (Err (Grammar at)) = IsRefusedAt sizes text at
  Says (Err (TooLarge n d)) = (e : Expression) × IsTooLarge sizes text e × (n ≡ node_count e) × (d ≡ tree_depth e)
  Says (Err Memory) = ⊥

  module _ (short : length text ≤ 1100) where
    end_says : (s : State) → run sizes text initial ≡ Some s → (o : Option Expression) → finished s ≡ o →
        ReadSays (ended (length text) o)
    end_says s all None e = refused_at_end sizes few_blocks text s short all (sym e)
    end_says s all (Some x) e = spelled_at_end sizes few_blocks text s x all (sym e)

    -- what comes of the next byte, if what comes behind it is known
    read_on : (byte : ℕ) (bytes : List ℕ) (at : ℕ) (s : State) → drop at text ≡ byte ∷ bytes →
        at + length (byte ∷ bytes) ≡ length text → run sizes (take at text) initial ≡ Some s →
        ((next : State) → drop (at + 1) text ≡ bytes → run sizes (take (at + 1) text) initial ≡ Some next →
        ReadSays (read_from sizes bytes (at + 1) next)) →
        ReadSays (gone_on at (read_from sizes bytes (at + 1)) (after sizes s (byte_kind byte)))
    read_on byte bytes at s rest size before further = by (after sizes s (byte_kind byte)) refl
      where
        here : at < length text
        here = omega (arith, size)

        get_or_drop : (xs : List ℕ) (n : ℕ) → get_or (drop n xs) 0 0 ≡ get_or xs n 0
        get_or_drop xs zero = refl
        get_or_drop [] (suc n) = refl
        get_or_drop (x ∷ xs) (suc n) = get_or_drop xs n

        this : get_or text at 0 ≡ byte
        this = sym (get_or_drop text at) ∙ ap (λ t. get_or t 0 0) rest

        drop_one : (xs : List ℕ) (n : ℕ) → drop (suc n) xs ≡ drop 1 (drop n xs)
        drop_one xs zero = refl
        drop_one [] (suc n) = refl
        drop_one (x ∷ xs) (suc n) = drop_one xs n

        next_place : at + 1 ≡ suc at
        next_place = omega arith

        behind : drop (at + 1) text ≡ bytes
        behind = ap (λ n. drop n text) next_place ∙ drop_one text at ∙ ap (drop 1) rest

        by : (o : Option State) → after sizes s (byte_kind byte) ≡ o →
            ReadSays (gone_on at (read_from sizes bytes (at + 1)) o)
        by None e = refused_here sizes few_blocks text at s short here before
            (sym e ∙ ap (λ b. after sizes s (byte_kind b)) (sym this))
        by (Some next) e =
            further next behind (run_step sizes text at s (Some next) here before
            (sym e ∙ ap (λ b. after sizes s (byte_kind b)) (sym this)))

    whole_text : (at : ℕ) → at ≡ length text → take at text ≡ text
    whole_text at e = ap (λ n. take n text) e ∙ taken text
      where
        taken : (xs : List ℕ) → take (length xs) xs ≡ xs
        taken [] = refl
        taken (x ∷ xs) = ap (λ ys. x ∷ ys) (taken xs)

    read_says : (bytes : List ℕ) (at : ℕ) (s : State) → drop at text ≡ bytes → at + length bytes ≡ length text →
        run sizes (take at text) initial ≡ Some s → ReadSays (read_from sizes bytes at s)
    read_says [] at s rest size before =
        let all : at ≡ length text = omega (arith, size) in
        subst (λ n. ReadSays (ended n (finished s))) (sym all)
        (end_says s (sym (ap (λ t. run sizes t initial) (whole_text at all)) ∙ before) (finished s) refl)
    read_says (byte ∷ bytes) at s rest size before =
        read_on byte bytes at s rest size before
        (λ next behind run_next. read_says bytes (at + 1) next behind (omega (arith, size)) run_next)

    large_by : (n d : ℕ) (a b : Bool) → nat_le n 64 ≡ a → nat_le d 16 ≡ b → (a && b) ≡ false → (64 < n) ⊎ (16 < d)
    large_by n d true true f g h = absurd cc
    large_by n d true false f g h = inr (grind (arith, g))
    large_by n d false b f g h = inl (grind (arith, f))

    small_by : (n d : ℕ) (a b : Bool) → nat_le n 64 ≡ a → nat_le d 16 ≡ b → (a && b) ≡ true → (n ≤ 64) × (d ≤ 16)
    small_by n d true true f g h = (leb-true n 64 f, leb-true d 16 g)
    small_by n d true false f g h = absurd cc
    small_by n d false b f g h = absurd cc

    sized_says : (r : Result Expression ExprFault) → ReadSays r → Says (within_size r)
    sized_says (Ok e) spelled = by (nat_le (node_count e) 64 && nat_le (tree_depth e) 16) refl
      where
        by : (small : Bool) → (nat_le (node_count e) 64 && nat_le (tree_depth e) 16) ≡ small →
            Says (cond small (Ok e) (Err (TooLarge (node_count e) (tree_depth e))))
        by true h = record {
          short = short;
          spelled = spelled;
          small = small_by (node_count e) (tree_depth e) _ _ refl refl h;
        }
        by false h = (
          e,
          record {
            short = short;
            spelled = spelled;
            large = large_by (node_count e) (tree_depth e) _ _ refl refl h;
          },
          refl,
          refl,
        )
    sized_says (Err TooLong) h = absurd h
    sized_says (Err (Grammar at)) h = h
    sized_says (Err (TooLarge n d)) h = absurd h
    sized_says (Err Memory) h = absurd h

  parsed_says : Says (parsed sizes text)
  unfolding parsed
  parsed_says = by (nat_lt 1100 (length text)) refl
    where
      by : (long : Bool) → nat_lt 1100 (length text) ≡ long →
          Says (cond long (Err TooLong) (within_size (read_from sizes text 0 initial)))
      by true h = leb-true 1101 (length text) h
      by false h =
          let short : length text ≤ 1100 = grind (arith, h) in
          sized_says short (read_from sizes text 0 initial) (read_says short text 0 initial refl (omega arith) refl)

  -- ---- the answer

  from_fault : (f : ExprFault) (r : Result Expr ExprFault) → IsFault f r → IsAnswerOf (Err f) r
  from_fault f (Ok x) h = absurd h
  from_fault f (Err g) (inl h) = inr (ap Err (sym h))
  from_fault f (Err g) (inr h) = inl h

  from_read : (e : Expression) → IsRead sizes text e → (r : Result Expr ExprFault) → Parses sizes text r →
      IsAnswerOf (Ok e) r
  from_read e h (Ok x) p = ap Ok (unambiguous sizes few_blocks text e (tree x) h.spelled p.spelled)
  from_read e h (Err TooLong) p = let s = h.short in absurd (omega arith)
  from_read e h (Err (Grammar at)) p = absurd (p.refused (e, h.spelled))
  from_read e h (Err (TooLarge n d)) p =
      absurd (clash sizes few_blocks text p.0 p.1.large
      (subst IsSmall (unambiguous sizes few_blocks text e p.0 h.spelled p.1.spelled) h.small))
  from_read e h (Err Memory) p = inl refl

  by_says : (expected : Result Expression ExprFault) → Says expected → (r : Result Expr ExprFault) →
      Parses sizes text r → IsAnswerOf expected r
  by_says (Ok e) h r p = from_read e h r p
  by_says (Err TooLong) h r p = from_fault TooLong r (of_too_long sizes few_blocks text h r p)
  by_says (Err (Grammar at)) h r p = from_fault (Grammar at) r (of_refused sizes few_blocks text at h r p)
  by_says (Err (TooLarge n d)) h r p =
      let same : TooLarge (node_count h.0) (tree_depth h.0) ≡ TooLarge n d = cc (h.2, h.3) in
      from_fault (TooLarge n d) r (subst (λ f. IsFault f r) same (of_too_large sizes few_blocks text h.0 h.1 r p))
  by_says (Err Memory) h r p = absurd h

  -- what holds of the text is what parsing as a function answers
  pub answer : (r : Result Expr ExprFault) → Parses sizes text r → IsAnswerOf (parsed sizes text) r
  answer r p = by_says (parsed sizes text) parsed_says r p
