-- Some words, and zeros up to the number of places.
use Rattle.std.proofs.Common.{◌≡◌, ◌≤◌, ◌+◌, ◌-◌, ◌++◌, ◌∙◌, ℕ, ℤ, pos, List, length, drop, replicate, ap, arith}
use Rattle.std.proofs.lemmas.List.{drop-replicate, length-append, length-drop, length-replicate}
use Rattle.std.proofs.Math.Seq.{drop-append_seam}
use Rattle.guards_base.specs.Padding.{IsPadded}

pub padded_words : (places : ℕ) (words : List ℤ) → 1 ≤ length words → length words ≤ places →
    IsPadded places (length words) (words ++ drop (length words) (replicate places (pos 0)))
padded_words places words least most =
    let zeros : List ℤ = drop (length words) (replicate places (pos 0)) in
    let left : length zeros ≡ places - length words =
    length-drop (length words) (replicate places (pos 0))
    ∙ ap (λ n. n - length words) (length-replicate places (pos 0)) in
    record {
      whole = length-append words zeros ∙ ap (λ n. length words + n) left ∙ grind (arith, most);
      least = least;
      most = most;
      unused = drop-append_seam words zeros ∙ drop-replicate (length words) places (pos 0);
    }
