-- Arrays of which only a front is in use.
use Rattle.std.proofs.Common.{◌≡◌, ℕ, zero, suc, ◌-◌, ◌≤◌, ℤ, pos, List, [], ◌∷◌, ◌++◌, Option, Some, length, get_or, map, take, drop, replicate, refl, sym, ap, ◌∙◌, arith}
use Rattle.std.proofs.lemmas.List.{drop-replicate, length-take-le}
use Rattle.std.proofs.lemmas.Option.{unwrap_or-slice_get}
use Rattle.std.proofs.Math.Seq.{take-length}
use Rattle.guards_base.specs.Padding.{padded}
use Rattle.guards_model.specs.Channels.{place_or}

pub padded_front : (n : ℕ) (words front : List ℤ) → length words ≡ 4 → n ≤ 4 → front ≡ take n words →
    front ++ drop n (replicate 4 (pos 0)) ≡ padded 4 (take n words)
padded_front n words front size most e =
    let long : length (take n words) ≡ n = length-take-le n words (omega arith) in
    let zeros = drop-replicate n 4 (pos 0) ∙ ap (λ k. replicate (4 - k) (pos 0)) (sym long) in
    λ i. e i ++ zeros i

past_end : (q : ℕ) → get_or {A = ℕ} [] q 0 ≡ 0
past_end zero = refl
past_end (suc q) = refl

zeros_at : (m q : ℕ) → get_or {A = ℕ} (replicate m 0) q 0 ≡ 0
zeros_at zero q = past_end q
zeros_at (suc m) zero = refl
zeros_at (suc m) (suc q) = zeros_at m q

zeros_after : (front : List ℕ) (m q : ℕ) → get_or {A = ℕ} (front ++ replicate m 0) q 0 ≡ get_or front q 0
zeros_after [] m q = zeros_at m q ∙ sym (past_end q)
zeros_after (x ∷ front) m zero = refl
zeros_after (x ∷ front) m (suc q) = zeros_after front m q

pub front_at : (n : ℕ) (counts front : List ℕ) → front ≡ take n counts → (q : ℕ) →
    get_or {A = ℕ} (front ++ drop n (replicate 7 0)) q 0 ≡ place_or (take n counts) q 0
front_at n counts front e q =
    ap (λ zeros. get_or (front ++ zeros) q 0) (drop-replicate n 7 0) ∙ zeros_after front (7 - n) q
    ∙ ap (λ ns. get_or ns q 0) e ∙ sym (unwrap_or-slice_get (take n counts) q 0)

pub cast_whole : (words : List ℤ) (votes : List (Option ℤ)) (n : ℕ) → n ≡ length words →
    take n votes ≡ map (λ w. Some w) (take n words) → take (length words) votes ≡ map (λ w. Some w) words
cast_whole words votes n e h =
    ap (λ k. take k votes) (sym e) ∙ h ∙ ap (λ k. map (λ w. Some w) (take k words)) e
    ∙ ap (map (λ w. Some w)) (take-length words)
