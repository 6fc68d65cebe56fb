-- Whether a transfer ever ends, whatever number of cycles it may take.
use Rattle.std.specs.Prelude.{◌≡◌, ◌≤◌, ◌<◌, ◌+◌, ◌*◌, ◌^◌, ◌⊎◌, ℕ, Bool, false, IsTrue, length, is_none}
use Rattle.guards_model.specs.Missions.{MissionValue}
use Rattle.recovery_laws.specs.Lengths.{fits_after, first_from, GoesRound}

-- No transfer is in more states than these: the row, the block at which the next plan begins, and whether each block
-- remains.
abbrev pub most_states : MissionValue → ℕ
most_states M = length M.table * (M.rules.blocks * 2 ^ M.rules.blocks)

-- whether the blocks that remain fit a final frame after none of as many cycles as there are states
unfoldable pub never_ends : MissionValue → ℕ → Bool
never_ends M row = is_none (first_from (fits_after M row) 1 (most_states M))

-- A number of cycles, from 1 on, after which the rest fits, and no smaller one is.
pub record FitsFirst (M : MissionValue) (row k : ℕ) : Type 0 where
  pub some : 1 ≤ k
  pub fits : IsTrue (fits_after M row k)
  pub first : (j : ℕ) → 1 ≤ j → j < k → fits_after M row j ≡ false

-- Either the rest fits after some of so many cycles, or the transfer goes round within them: so a search that counts
-- the tags along comes to the one or the other, and says at which number.
abbrev pub EndsOrGoesRound : MissionValue → ℕ → Type 0
EndsOrGoesRound M row =
    ((k : ℕ) × FitsFirst M row k × (k ≤ most_states M))
    ⊎ ((i : ℕ) × (d : ℕ) × GoesRound M row i d × (i + d ≤ most_states M))
