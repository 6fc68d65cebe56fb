-- Lists that are made item by item.
use Rattle.std.proofs.Common.{◌≡◌, ℕ, ◌+◌, ◌<◌, List, [], ◌∷◌, ◌++◌, length, map, flat_map, take, get_or, ap, sym, ◌∙◌, append-nil, append_assoc, arith}
use Rattle.std.specs.List.{range_with_len}
use Rattle.std.proofs.lemmas.List.{take_more, map-id}
use Rattle.std.proofs.lemmas.List.FromFn.{map-range_with_len_more}
use Rattle.std.proofs.lemmas.Grind.{flat_map-append}

-- the lists of one number more, in a row
pub flat_range : {X : Type 0} (f : ℕ → List X) (n : ℕ) →
    flat_map f (range_with_len 0 (n + 1)) ≡ flat_map f (range_with_len 0 n) ++ f n
flat_range f n =
    let more : range_with_len 0 (n + 1) ≡ range_with_len 0 n ++ n ∷ [] =
    simp map-id at (map-range_with_len_more (λ (x : ℕ). x) 0 n n (omega arith)) in
    ap (λ (l : List ℕ). flat_map f l) more ∙ flat_map-append f (range_with_len 0 n) (n ∷ [])
    ∙ ap (λ l. flat_map f (range_with_len 0 n) ++ l) (append-nil (f n))

pub map_range : {X : Type 0} (f : ℕ → X) (n : ℕ) →
    map f (range_with_len 0 (n + 1)) ≡ map f (range_with_len 0 n) ++ f n ∷ []
map_range f n = map-range_with_len_more f 0 n n (omega arith)

-- the lists of one item more, in a row
pub flat_next : {X Y : Type 0} (f : X → List Y) (xs : List X) (i : ℕ) (d : X) → i < length xs →
    flat_map f (take (i + 1) xs) ≡ flat_map f (take i xs) ++ f (get_or xs i d)
flat_next f xs i d below =
    ap (λ l. flat_map f l) (take_more xs i d below)
    ∙ flat_map-append f (take i xs) (get_or xs i d ∷ [])
    ∙ ap (λ l. flat_map f (take i xs) ++ l) (append-nil (f (get_or xs i d)))

-- one more item after others
pub more_after : {X : Type 0} (xs : List X) (x : X) (ys : List X) (y : X) →
    (xs ++ x ∷ ys) ++ y ∷ [] ≡ xs ++ x ∷ (ys ++ y ∷ [])
more_after xs x ys y = append_assoc xs (x ∷ ys) (y ∷ [])

-- a list that a loop makes, item by item
pub flat_step : {X Y : Type 0} (f : X → List Y) (xs : List X) (i : ℕ) (d : X) (old new : List Y) → i < length xs →
    old ≡ flat_map f (take i xs) → new ≡ old ++ f (get_or xs i d) → new ≡ flat_map f (take (i + 1) xs)
flat_step f xs i d old new below so_far more =
    more ∙ ap (λ l. l ++ f (get_or xs i d)) so_far ∙ sym (flat_next f xs i d below)
