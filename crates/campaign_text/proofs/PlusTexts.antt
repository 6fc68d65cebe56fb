-- Texts joined by a plus, item by item.
use Rattle.std.proofs.Common.{◌≡◌, ◌+◌, ◌<◌, ◌==◌, ℕ, zero, suc, Bool, if◌then◌else◌, List, [], ◌∷◌, ◌++◌, length, map, take, get_or, refl, sym, ap, ◌∙◌, append_assoc, arith}
use Rattle.std.proofs.Math.Dec.{eqb-suc-zero}
use Rattle.std.specs.List.{join_with_byte}
use Rattle.std.proofs.lemmas.List.{take_more, map-append}

-- one more piece after others
join-more : (x : List ℕ) (xs : List (List ℕ)) (y : List ℕ) → join_with_byte 43 (x ∷ (xs ++ y ∷ [])) ≡ join_with_byte 43 (x ∷ xs) ++ (43 ∷ y)
join-more x [] y = refl
join-more x (z ∷ xs) y = ap (λ (l : List ℕ). x ++ (43 ∷ l)) (join-more z xs y) ∙ sym (append_assoc x (43 ∷ join_with_byte 43 (z ∷ xs)) (43 ∷ y))

module _ {X : Type 0} (f : X → List ℕ) where
  -- the texts of one item more, joined
  pub plus_at : (xs : List X) (i : ℕ) (d : X) → i < length xs
      → join_with_byte 43 (map f (take (i + 1) xs)) ≡ join_with_byte 43 (map f (take i xs)) ++ (if i == 0 then f (get_or xs i d) else 43 ∷ f (get_or xs i d))
  plus_at [] i d below = absurd (omega arith)
  plus_at (z ∷ xs) zero d below = refl
  plus_at (z ∷ xs) (suc i) d below =
      let x = get_or (z ∷ xs) (suc i) d in
      let more : take (suc i + 1) (z ∷ xs) ≡ z ∷ (take i xs ++ x ∷ []) = take_more (z ∷ xs) (suc i) d below in
      ap (λ (l : List X). join_with_byte 43 (map f l)) more ∙ ap (λ (l : List (List ℕ)). join_with_byte 43 (f z ∷ l)) (map-append f (take i xs) (x ∷ [])) ∙ join-more (f z) (map f (take i xs)) (f x)
      ∙ ap (λ (b : Bool). join_with_byte 43 (f z ∷ map f (take i xs)) ++ (if b then f x else 43 ∷ f x)) (sym (eqb-suc-zero i))
