-- Lines, those of one element after the other.
use Rattle.std.proofs.Common.{◌≡◌, ◌<◌, ◌+◌, ◌∙◌, ℕ, zero, suc, add-one, add-zero, zero-add, Bool, true, false, cond, List, [], ◌∷◌, ◌++◌, length, take, get_or, refl, sym, ap, append_assoc, append-nil, arith}
use Rattle.std.specs.Prelude.{filter, flat_map}
use Rattle.std.specs.List.{range_with_len}
use Rattle.std.proofs.lemmas.List.{flat_map_more, length-append, take_more}
use Rattle.std.proofs.lemmas.List.Elements.{filter-append}
use Rattle.guards_model.specs.Channels.{numbers_below}
use Rattle.table_flow.specs.Flow.{lists_from}
use Rattle.table_flow.proofs.Flows.{lists_from-append}

pub range_more : (n : ℕ) → numbers_below (n + 1) ≡ numbers_below n ++ n ∷ []
range_more n = rw add-one (by_length 0 n) ∙ ap (λ k. numbers_below n ++ k ∷ []) (zero-add n)
  where
    by_length : (a n : ℕ) → range_with_len a (suc n) ≡ range_with_len a n ++ (a + n) ∷ []
    by_length a zero = ap (λ k. k ∷ []) (sym (add-zero a))
    by_length a (suc n) =
        let moved : a + 1 + n ≡ a + suc n = omega arith in
        ap (λ ks. a ∷ ks) (by_length (a + 1) n ∙ ap (λ k. range_with_len (a + 1) n ++ k ∷ []) moved)

module _ {L : Type 0} (old now next : List L) where
  -- one more number
  pub number_more : (f : ℕ → List L) (n : ℕ) → now ≡ old ++ flat_map f (numbers_below n) → next ≡ now ++ f n →
      next ≡ old ++ flat_map f (numbers_below (n + 1))
  number_more f n before this =
      this ∙ ap (λ (ls : List L). ls ++ f n) before ∙ flat_map_more f old (numbers_below n) n
      ∙ ap (λ (ns : List ℕ). old ++ flat_map f ns) (sym (range_more n))

  -- one more element of a list
  pub element_more : {A : Type 0} (f : A → List L) (xs : List A) (at : ℕ) (d : A) → at < length xs →
      now ≡ old ++ flat_map f (take at xs) → next ≡ now ++ f (get_or xs at d) →
      next ≡ old ++ flat_map f (take (at + 1) xs)
  element_more {A} f xs at d low before this =
      this ∙ ap (λ (ls : List L). ls ++ f (get_or xs at d)) before ∙ flat_map_more f old (take at xs) (get_or xs at d)
      ∙ ap (λ (ys : List A). old ++ flat_map f ys) (sym (take_more xs at d low))

  -- one more element by its place
  pub place_more : {A : Type 0} (f : ℕ → A → List L) (xs : List A) (at : ℕ) (d : A) → at < length xs →
      length (take at xs) ≡ at →
      now ≡ old ++ lists_from f 0 (take at xs) → next ≡ now ++ f at (get_or xs at d) →
      next ≡ old ++ lists_from f 0 (take (at + 1) xs)
  place_more {A} f xs at d low short before this =
      this
      ∙ ap (λ (ls : List L). ls ++ f at (get_or xs at d)) before
      ∙ append_assoc old (lists_from f 0 (take at xs)) (f at (get_or xs at d))
      ∙ ap (λ (ls : List L). old ++ ls) (sym whole)
    where
      place : 0 + length (take at xs) ≡ at
      place = omega (arith, short)

      whole : lists_from f 0 (take (at + 1) xs) ≡ lists_from f 0 (take at xs) ++ f at (get_or xs at d)
      whole =
          ap (lists_from f 0) (take_more xs at d low)
          ∙ lists_from-append f 0 (take at xs) (get_or xs at d ∷ [])
          ∙ ap (λ n. lists_from f 0 (take at xs) ++ (f n (get_or xs at d) ++ [])) place
          ∙ ap (λ (ls : List L). lists_from f 0 (take at xs) ++ ls) (append-nil (f at (get_or xs at d)))

-- one more number that passes or not
pub count_more : (p : ℕ → Bool) (n count one : ℕ) → count ≡ length (filter p (numbers_below n)) → one ≡ cond (p n) 1 0 →
    count + one ≡ length (filter p (numbers_below (n + 1)))
count_more p n count one before this =
    ap (λ k. k + one) before
    ∙ ap (λ k. length (filter p (numbers_below n)) + k) (this ∙ by (p n) refl)
    ∙ sym (length-append (filter p (numbers_below n)) (filter p (n ∷ [])))
    ∙ ap length (sym (filter-append p (numbers_below n) (n ∷ [])) ∙ ap (filter p) (sym (range_more n)))
  where
    by : (b : Bool) → p n ≡ b → cond (p n) 1 0 ≡ length (filter p (n ∷ []))
    by true e = ap (λ b. cond b 1 0) e ∙ sym (ap (λ b. length (cond b (n ∷ []) [])) e)
    by false e = ap (λ b. cond b 1 0) e ∙ sym (ap (λ b. length (cond b (n ∷ []) [])) e)

range_alike : {L : Type 0} (f g : ℕ → List L) (a n : ℕ) → ((k : ℕ) → k < a + n → f k ≡ g k) →
    flat_map f (range_with_len a n) ≡ flat_map g (range_with_len a n)
range_alike f g a zero same = refl
range_alike {L} f g a (suc n) same =
    ap (λ (ls : List L). ls ++ flat_map f (range_with_len (a + 1) n)) (same a (omega arith))
    ∙ ap (λ (ls : List L). g a ++ ls) (range_alike f g (a + 1) n (λ k low. same k (omega (arith, low))))

-- lines that agree on the numbers below n
pub numbers_alike : {L : Type 0} (f g : ℕ → List L) (n : ℕ) → ((k : ℕ) → k < n → f k ≡ g k) →
    flat_map f (numbers_below n) ≡ flat_map g (numbers_below n)
numbers_alike f g n same = range_alike f g 0 n (λ k low. same k (omega (arith, low)))

-- lists that are appended, one after the other
pub three_appended : {L : Type 0} (old a b d l1 l2 l3 : List L) → l1 ≡ old ++ a → l2 ≡ l1 ++ b → l3 ≡ l2 ++ d →
    l3 ≡ old ++ (a ++ (b ++ d))
three_appended {L} old a b d l1 l2 l3 first second third =
    third ∙ ap (λ (l : List L). l ++ d) (second ∙ ap (λ (l : List L). l ++ b) first)
    ∙ append_assoc (old ++ a) b d ∙ append_assoc old a (b ++ d)

pub four_appended : {L : Type 0} (old a b d e l1 l2 l3 l4 : List L) → l1 ≡ old ++ a → l2 ≡ l1 ++ b → l3 ≡ l2 ++ d →
    l4 ≡ l3 ++ e → l4 ≡ old ++ (a ++ (b ++ (d ++ e)))
four_appended {L} old a b d e l1 l2 l3 l4 first second third fourth =
    three_appended old a b (d ++ e) l1 l2 l4 first second
    (fourth ∙ ap (λ (l : List L). l ++ e) third ∙ append_assoc l2 d e)
