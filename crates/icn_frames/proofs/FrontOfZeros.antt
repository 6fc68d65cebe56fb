-- Values at the front of zeros.
use Rattle.std.proofs.Common.{◌≡◌, ℕ, List, ◌++◌, length, take, drop, subst}
use Rattle.std.proofs.Math.Seq.{take-append_seam, drop-append_seam}

pub padded : {A : Type 0} (front back : List A) (n : ℕ) → length front ≡ n →
    (take n (front ++ back) ≡ front) × (drop n (front ++ back) ≡ back)
padded front back n h = subst (λ k. (take k (front ++ back) ≡ front) × (drop k (front ++ back) ≡ back)) h
    (take-append_seam front back, drop-append_seam front back)
