-- The numbers below one more.
use Rattle.std.proofs.Common.{◌≡◌, ℕ, zero, suc, ◌+◌, [], ◌∷◌, ◌++◌, map, ap, ◌∙◌, arith}
use Rattle.std.specs.List.{range_with_len}
use Rattle.std.proofs.lemmas.List.{map-append}
use Rattle.guards_model.specs.Channels.{numbers_below}

range_more : (a n : ℕ) → range_with_len a (suc n) ≡ range_with_len a n ++ (a + n) ∷ []
range_more a zero = let same : a ≡ a + 0 = omega arith in ap (λ k. k ∷ []) same
range_more a (suc n) =
    let last : a + 1 + n ≡ a + suc n = omega arith in
    ap (λ xs. a ∷ xs) (range_more (a + 1) n ∙ ap (λ k. range_with_len (a + 1) n ++ k ∷ []) last)

-- what is made of one more channel comes at the end
pub first_more : {A : Type 0} (f : ℕ → A) (n : ℕ) → map f (numbers_below (n + 1)) ≡ map f (numbers_below n) ++ f n ∷ []
first_more f n =
    let one : n + 1 ≡ suc n = omega arith in
    let here : 0 + n ≡ n = omega arith in
    ap (λ k. map f (numbers_below k)) one
    ∙ ap (map f) (range_more 0 n)
    ∙ map-append f (numbers_below n) ((0 + n) ∷ [])
    ∙ ap (λ k. map f (numbers_below n) ++ f k ∷ []) here
