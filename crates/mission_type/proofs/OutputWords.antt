-- Words that are read one after the other.
use Rattle.std.proofs.Common.{◌≡◌, ◌<◌, ◌+◌, ℕ, ℤ, List, [], ◌∷◌, ◌++◌, length, map, take, get_or, ap, sym, ◌∙◌}
use Rattle.std.specs.Prelude.{slice_set}
use Rattle.std.proofs.lemmas.List.{map-append, take_more, take_more_set}

pub words_more : {A : Type 0} (f : A → ℤ) (xs : List A) (words : List ℤ) (p : ℕ) (d : A) (w : ℤ) → p < length xs →
    p < length words → w ≡ f (get_or xs p d) →
    take p words ≡ map f (take p xs) → take (p + 1) (slice_set words p w) ≡ map f (take (p + 1) xs)
words_more f xs words p d w lt low is before =
    take_more_set words p w low
    ∙ ap (λ front. front ++ w ∷ []) before
    ∙ ap (λ v. map f (take p xs) ++ v ∷ []) is
    ∙ sym (map-append f (take p xs) (get_or xs p d ∷ []))
    ∙ ap (map f) (sym (take_more xs p d lt))
