-- A text that a loop makes, piece by piece.
use Rattle.std.proofs.Common.{◌≡◌, ℕ, ◌+◌, List, ◌++◌, flat_map, sym, ap, ◌∙◌}
use Rattle.std.specs.List.{range_with_len}
use Rattle.picture_marks.proofs.MarkLists.{flat_range}

pub text_step : (f : ℕ → List ℕ) (n q : ℕ) (old new piece text : List ℕ) → q ≡ n →
    old ≡ flat_map f (range_with_len 0 n) → new ≡ old ++ piece → piece ≡ text → text ≡ f q →
    new ≡ flat_map f (range_with_len 0 (n + 1))
text_step f n q old new piece text at so_far more same is =
    more ∙ (λ i. so_far i ++ (same ∙ is ∙ ap f at) i) ∙ sym (flat_range f n)
