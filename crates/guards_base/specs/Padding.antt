-- Words in an array of fixed size, of which the first are in use.
use Rattle.std.proofs.Common.{◌≡◌, ◌≤◌, ◌-◌, ◌++◌, ◌∙◌, ℕ, ℤ, pos, List, length, take, drop, replicate, ap, sym, subst}
use Rattle.std.proofs.lemmas.List.{take-append-drop, length-take-le}

-- Of so many places, the first `count` are in use, at least one, and each other word is 0.
pub record IsPadded (places count : ℕ) (words : List ℤ) : Type 0 where
  pub whole : length words ≡ places
  pub least : 1 ≤ count
  pub most : count ≤ places
  pub unused : drop count words ≡ replicate (places - count) (pos 0)

-- the words in use, and zeros up to the number of places
abbrev pub padded : ℕ → List ℤ → List ℤ
padded places words = words ++ replicate (places - length words) (pos 0)

pub length-used : (places count : ℕ) (words : List ℤ) → IsPadded places count words → length (take count words) ≡ count
length-used places count words p = length-take-le count words (subst (λ n. count ≤ n) (sym p.whole) p.most)

-- the words in use tell the whole array and their number
pub used_back : (places count : ℕ) (words : List ℤ) → IsPadded places count words →
    ◌≡◌ {A = ℕ × List ℤ} (length (take count words), padded places (take count words)) (count, words)
used_back places count words p =
    let len : length (take count words) ≡ count = length-used places count words p in
    let zeros : replicate (places - length (take count words)) (pos 0) ≡ drop count words =
    ap (λ n. replicate (places - n) (pos 0)) len ∙ sym p.unused in
    let back : padded places (take count words) ≡ words =
    ap (λ rest. take count words ++ rest) zeros ∙ take-append-drop count words in
    let with_count : ℕ → ℕ × List ℤ = λ n. (n, padded places (take count words)) in
    let with_words : List ℤ → ℕ × List ℤ = λ ws. (count, ws) in
    ap with_count len ∙ ap with_words back
