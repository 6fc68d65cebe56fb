-- The walk to the first element that passes.
use Rattle.std.proofs.Common.{◌≡◌, ℕ, suc, ◌+◌, ◌<◌, Bool, true, false, cond, List, ◌∷◌, length, drop, get_or, Some, sym, ap, ◌∙◌, arith, drop-cons}
use Rattle.std.specs.Prelude.{map, find}

left : {A : Type 0} (xs : List A) (i : ℕ) (x : A) → i < length xs → x ≡ get_or xs i x → drop i xs ≡ x ∷ drop (i + 1) xs
left xs i x lt is = drop-cons xs i x lt ∙ ap (λ y. y ∷ drop (suc i) xs) (sym is)
    ∙ ap (λ k. x ∷ drop k xs) (let one : suc i ≡ i + 1 = omega arith in one)

pub found_here : {A : Type 0} (P : A → Bool) (xs : List A) (i : ℕ) (x : A) → i < length xs → x ≡ get_or xs i x →
    P x ≡ true → find P (drop i xs) ≡ Some x
found_here P xs i x lt is h = ap (find P) (left xs i x lt is) ∙ ap (λ b. cond b (Some x) (find P (drop (i + 1) xs))) h

pub found_later : {A : Type 0} (P : A → Bool) (xs : List A) (i : ℕ) (x : A) → i < length xs → x ≡ get_or xs i x →
    P x ≡ false → find P (drop (i + 1) xs) ≡ find P (drop i xs)
found_later P xs i x lt is h =
    sym (ap (find P) (left xs i x lt is) ∙ ap (λ b. cond b (Some x) (find P (drop (i + 1) xs))) h)

pub found_here_by : {A B : Type 0} (P : B → Bool) (f : A → B) (xs : List A) (i : ℕ) (x : A) → i < length xs →
    x ≡ get_or xs i x → P (f x) ≡ true → find P (map f (drop i xs)) ≡ Some (f x)
found_here_by P f xs i x lt is h =
    ap (λ ys. find P (map f ys)) (left xs i x lt is)
    ∙ ap (λ b. cond b (Some (f x)) (find P (map f (drop (i + 1) xs)))) h

pub found_later_by : {A B : Type 0} (P : B → Bool) (f : A → B) (xs : List A) (i : ℕ) (x : A) → i < length xs →
    x ≡ get_or xs i x → P (f x) ≡ false → find P (map f (drop (i + 1) xs)) ≡ find P (map f (drop i xs))
found_later_by P f xs i x lt is h =
    sym (ap (λ ys. find P (map f ys)) (left xs i x lt is)
    ∙ ap (λ b. cond b (Some (f x)) (find P (map f (drop (i + 1) xs)))) h)
