-- The texts of the elements of lists, one more at a time.
use Rattle.std.proofs.Common.{◌≡◌, ◌<◌, ℕ, suc, ◌+◌, List, [], ◌∷◌, ◌++◌, length, take, drop, get_or, sym, ap, ◌∙◌, append_assoc, append-nil, arith}
use Rattle.std.specs.Prelude.{flat_map}
use Rattle.std.proofs.lemmas.List.{take-append-drop, take_more}
use Rattle.std.proofs.lemmas.Grind.{flat_map-append}
use Rattle.guards_model.specs.Texts.{TextValue}
use Rattle.check_text.specs.Check.{texts_from}

texts_from-append : {A : Type 0} (text : ℕ → A → TextValue) (k : ℕ) (xs ys : List A) →
    texts_from text k (xs ++ ys) ≡ texts_from text k xs ++ texts_from text (k + length xs) ys
texts_from-append text k [] ys = ap (λ n. texts_from text n ys) same
  where
    same : k ≡ k + 0
    same = omega arith
texts_from-append text k (x ∷ xs) ys =
    ap (λ (rest : TextValue). text k x ++ rest)
    (texts_from-append text (k + 1) xs ys ∙ ap (λ n. texts_from text (k + 1) xs ++ texts_from text n ys) moved)
    ∙ sym (append_assoc (text k x) (texts_from text (k + 1) xs) (texts_from text (k + length (x ∷ xs)) ys))
  where
    moved : k + 1 + length xs ≡ k + suc (length xs)
    moved = omega arith

-- the texts of the first elements are a front of all texts
pub place_front : {A : Type 0} (text : ℕ → A → TextValue) (xs : List A) (n : ℕ) →
    (later : TextValue) × (texts_from text 0 xs ≡ texts_from text 0 (take n xs) ++ later)
place_front text xs n = (
  texts_from text (0 + length (take n xs)) (drop n xs),
  ap (texts_from text 0) (sym (take-append-drop n xs)) ∙ texts_from-append text 0 (take n xs) (drop n xs),
)

module _ {A : Type 0} (old : TextValue) (xs : List A) (at : ℕ) (d : A) (now next : TextValue) where
  -- one more element by its place
  pub place_more : (text : ℕ → A → TextValue) → at < length xs → length (take at xs) ≡ at →
      now ≡ old ++ texts_from text 0 (take at xs) → next ≡ now ++ text at (get_or xs at d) →
      next ≡ old ++ texts_from text 0 (take (at + 1) xs)
  place_more text low short before this =
      this
      ∙ ap (λ (t : TextValue). t ++ text at (get_or xs at d)) before
      ∙ append_assoc old (texts_from text 0 (take at xs)) (text at (get_or xs at d))
      ∙ ap (λ (t : TextValue). old ++ t) (sym whole)
    where
      place : 0 + length (take at xs) ≡ at
      place = omega (arith, short)

      whole : texts_from text 0 (take (at + 1) xs) ≡ texts_from text 0 (take at xs) ++ text at (get_or xs at d)
      whole =
          ap (texts_from text 0) (take_more xs at d low)
          ∙ texts_from-append text 0 (take at xs) (get_or xs at d ∷ [])
          ∙ ap (λ n. texts_from text 0 (take at xs) ++ (text n (get_or xs at d) ++ [])) place
          ∙ ap (λ (t : TextValue). texts_from text 0 (take at xs) ++ t) (append-nil (text at (get_or xs at d)))

  -- one more element
  pub element_more : (text : A → TextValue) → at < length xs →
      now ≡ old ++ flat_map text (take at xs) → next ≡ now ++ text (get_or xs at d) →
      next ≡ old ++ flat_map text (take (at + 1) xs)
  element_more text low before this =
      this
      ∙ ap (λ (t : TextValue). t ++ text (get_or xs at d)) before
      ∙ append_assoc old (flat_map text (take at xs)) (text (get_or xs at d))
      ∙ ap (λ (t : TextValue). old ++ t) (sym whole)
    where
      whole : flat_map text (take (at + 1) xs) ≡ flat_map text (take at xs) ++ text (get_or xs at d)
      whole =
          ap (flat_map text) (take_more xs at d low)
          ∙ flat_map-append text (take at xs) (get_or xs at d ∷ [])
          ∙ ap (λ (t : TextValue). flat_map text (take at xs) ++ t) (append-nil (text (get_or xs at d)))
