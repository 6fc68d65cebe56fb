-- The labels of a stored path.
use Rattle.std.proofs.Common.{◌≡◌, ℕ, List, [], ◌∷◌, get_or, ap, ◌==◌, cond}
use Rattle.std.specs.Prelude.{slice_index}
use Rattle.guards_model.specs.OralMessages.{PathValue}
use Rattle.oral_messages.specs.declared.words.Path.{Path as StoredPath}
use Rattle.oral_messages.specs.Paths.{path_of}

choose : ℕ → List ℕ → PathValue
choose n at =
    cond (n == 1) (slice_index at 0 ∷ [])
    (cond (n == 2) (slice_index at 1 ∷ slice_index at 0 ∷ [])
    (slice_index at 2 ∷ slice_index at 1 ∷ slice_index at 0 ∷ []))

pub path_one : (p : StoredPath) → p.count ≡ 1 → path_of p ≡ get_or p.at 0 0 ∷ []
unfolding choose
path_one p e = ap (λ n. choose n p.at) e

pub path_two : (p : StoredPath) → p.count ≡ 2 → path_of p ≡ get_or p.at 1 0 ∷ get_or p.at 0 0 ∷ []
unfolding choose
path_two p e = ap (λ n. choose n p.at) e

pub path_three : (p : StoredPath) → p.count ≡ 3 → path_of p ≡ get_or p.at 2 0 ∷ get_or p.at 1 0 ∷ get_or p.at 0 0 ∷ []
unfolding choose
path_three p e = ap (λ n. choose n p.at) e
