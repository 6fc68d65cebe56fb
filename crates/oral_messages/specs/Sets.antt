-- The tables of a set of channels.
use Rattle.std.specs.Prelude.{◌≡◌, ◌<◌, ℕ, ◌+◌, Bool, List, [], ◌∷◌, length, take, nat_lt, slice_index, count_by, if◌then◌else◌}

-- the members in ascending order, of seven truth values of which the first says whether channel q is a member
abbrev pub members_from : ℕ → List Bool → List ℕ
members_from q [] = []
members_from q (b ∷ flags) = if b then q ∷ members_from (q + 1) flags else members_from (q + 1) flags

-- the members in ascending order
unfoldable pub members : List Bool → List ℕ
members flags = members_from 0 flags

-- the tables of a set: its members in ascending order, and for each channel how many members stand below it
pub record AreTables (flags : List Bool) (count : ℕ) (labels below : List ℕ) : Type 0 where
  pub seven : length flags ≡ 7
  pub counted : count ≡ length (members flags)
  pub listed : take count labels ≡ members flags
  pub ranked : (q : ℕ) → q < 7 → slice_index below q ≡ count_by (λ x. nat_lt x q) (members flags)
