-- The labels of a path, in two places of which the first are in use.
use Rattle.std.proofs.Common.{◌≡◌, ◌≤◌, ◌-◌, ◌++◌, ◌∙◌, ℕ, List, length, take, drop, replicate, ap, sym, subst}
use Rattle.std.proofs.lemmas.List.{take-append-drop, length-take-le}

-- at most two labels are in use, and each other place is 0
pub record IsLabelPath (count : ℕ) (places : List ℕ) : Type 0 where
  pub two : length places ≡ 2
  pub most : count ≤ 2
  pub unused : drop count places ≡ replicate (2 - count) 0

-- the labels, and zeros up to two places
abbrev pub both_places : List ℕ → List ℕ
both_places path = path ++ replicate (2 - length path) 0

-- the labels in use tell both places and their number
pub labels_back : (count : ℕ) (places : List ℕ) → IsLabelPath count places →
    ◌≡◌ {A = ℕ × List ℕ} (length (take count places), both_places (take count places)) (count, places)
labels_back count places p =
    let len : length (take count places) ≡ count =
    length-take-le count places (subst (λ n. count ≤ n) (sym p.two) p.most) in
    let zeros : replicate (2 - length (take count places)) 0 ≡ drop count places =
    ap (λ n. replicate (2 - n) 0) len ∙ sym p.unused in
    let back : both_places (take count places) ≡ places =
    ap (λ rest. take count places ++ rest) zeros ∙ take-append-drop count places in
    let with_count : ℕ → ℕ × List ℕ = λ n. (n, both_places (take count places)) in
    let with_places : List ℕ → ℕ × List ℕ = λ xs. (count, xs) in
    ap with_count len ∙ ap with_places back
