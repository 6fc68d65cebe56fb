-- Keeping the last of what was kept keeps the last of all.
use Rattle.std.proofs.Common.{◌≡◌, ◌+◌, ◌-◌, ℕ, List, [], ◌∷◌, ◌++◌, length, map, drop, sym, ap, ◌∙◌, arith, length-append, length-drop}
use Rattle.std.proofs.lemmas.List.{drop-append-le, drop-drop, drop-map, length-map, map-append}
use Rattle.circular_buffer.specs.Buffer.{keep_last}

pub kept_again : {X : Type 0} (n : ℕ) (xs : List X) (x : X) →
    keep_last n (keep_last n xs ++ x ∷ []) ≡ keep_last n (xs ++ x ∷ [])
kept_again n xs x =
    let d : ℕ = length xs - n in
    let k : ℕ = length (drop d xs ++ x ∷ []) - n in
    let total : d + k ≡ length (xs ++ x ∷ []) - n =
    omega (arith, length-append (drop d xs) (x ∷ []), length-append xs (x ∷ []), length-drop d xs) in
    ap (drop k) (sym (drop-append-le d xs (x ∷ []) (omega arith))) ∙ drop-drop k d (xs ++ x ∷ [])
    ∙ ap (λ j. drop j (xs ++ x ∷ [])) total

kept_mapped : {X Y : Type 0} (f : X → Y) (n : ℕ) (xs : List X) → map f (keep_last n xs) ≡ keep_last n (map f xs)
kept_mapped f n xs = sym (drop-map f (length xs - n) xs) ∙ ap (λ k. drop (k - n) (map f xs)) (sym (length-map xs f))

-- with one item more
pub kept_more : {X Y : Type 0} (f : X → Y) (n : ℕ) (items : List X) (x : X) (pushed : List Y) →
    map f items ≡ keep_last n pushed →
    map f (keep_last n (items ++ x ∷ [])) ≡ keep_last n (pushed ++ f x ∷ [])
kept_more f n items x pushed last =
    kept_mapped f n (items ++ x ∷ [])
    ∙ ap (keep_last n) (map-append f items (x ∷ []) ∙ ap (λ ys. ys ++ f x ∷ []) last)
    ∙ kept_again n pushed (f x)
