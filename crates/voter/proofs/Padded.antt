-- Votes that are not there accuse nobody.
use Rattle.std.proofs.Common.{◌≡◌, ℕ, zero, suc, Bool, false, cond, not, ◌||◌, ℤ, List, [], ◌∷◌, ◌++◌, replicate, Option, None, Some, refl, ap, ◌∙◌}
use Rattle.std.specs.Prelude.{filter}
use Rattle.std.specs.Ordering.{int_eq}
use Rattle.guards_model.specs.Channels.{ChannelSet, place_or}
use Rattle.guards_model.specs.Voting.{Ballots, contradicts, is_wrong, accused_of}

no_votes : (words : List ℤ) (n : ℕ) → contradicts words (replicate n None) ≡ false
no_votes [] n = refl
no_votes (w ∷ words) zero = refl
no_votes (w ∷ words) (suc n) = no_votes words n

nothing : (words : List ℤ) → contradicts words [] ≡ false
nothing [] = refl
nothing (w ∷ words) = refl

contradicts-padded : (words : List ℤ) (votes : List (Option ℤ)) (n : ℕ) →
    contradicts words (votes ++ replicate n None) ≡ contradicts words votes
contradicts-padded [] votes n = refl
contradicts-padded (w ∷ words) [] n = no_votes (w ∷ words) n
contradicts-padded (w ∷ words) (None ∷ votes) n = contradicts-padded words votes n
contradicts-padded (w ∷ words) (Some v ∷ votes) n = ap (λ b. not (int_eq w v) || b) (contradicts-padded words votes n)

wrong-padded : (votes : List (Option ℤ)) (n : ℕ) (o : Option (List ℤ)) →
    is_wrong (votes ++ replicate n None) o ≡ is_wrong votes o
wrong-padded votes n None = refl
wrong-padded votes n (Some words) = contradicts-padded words votes n

filter_same : (f g : ℕ → Bool) (xs : List ℕ) → ((q : ℕ) → f q ≡ g q) → filter f xs ≡ filter g xs
filter_same f g [] h = refl
filter_same f g (x ∷ xs) h =
    ap (λ b. cond b (x ∷ filter f xs) (filter f xs)) (h x) ∙ ap (λ ys. cond (g x) (x ∷ ys) ys) (filter_same f g xs h)

pub accused-padded : (active : ChannelSet) (ballots : Ballots) (votes : List (Option ℤ)) (n : ℕ) →
    accused_of active ballots (votes ++ replicate n None) ≡ accused_of active ballots votes
accused-padded active ballots votes n =
    filter_same (λ j. is_wrong (votes ++ replicate n None) (place_or ballots j None))
    (λ j. is_wrong votes (place_or ballots j None)) active
    (λ j. wrong-padded votes n (place_or ballots j None))
