-- How the parts of a running channel fit together.
use Rattle.std.specs.Prelude.{◌≡◌, ◌≤◌, ◌-◌, ℕ, ℤ, pos, length, drop, replicate, Bool, true, ◌==◌, nat_lt, nat_le, List, Option, Some, None, is_none}
use Rattle.std.specs.List.{list_all}
use Rattle.guards_model.specs.Controls.{SweepingValue, ControlValue, ClosedValue}

-- the tags of a transfer are for contexts of so many blocks
abbrev pub tags_fit : ℕ → Option SweepingValue → Bool
tags_fit blocks None = true
tags_fit blocks (Some s) = s.tags.blocks == blocks

-- the blocks of the final frames are blocks of the context
abbrev pub rest_fits : ℕ → Option ClosedValue → Bool
rest_fits blocks None = true
rest_fits blocks (Some closed) = list_all (λ b. nat_lt b blocks) closed.rest

-- codes are 0, 1 or 2
abbrev pub are_codes : List ℕ → Bool
are_codes heard = list_all (λ code. nat_le code 2) heard

-- no transfer runs in a control that was taken
abbrev pub is_idle : Option ControlValue → Bool
is_idle None = true
is_idle (Some k) = is_none k.sweeping

pub record AreRunningParts (blocks : ℕ) (sweeping : Option SweepingValue) (closed : Option ClosedValue)
    (heard hearing : List ℕ) : Type 0 where
  pub tags : tags_fit blocks sweeping ≡ true
  pub rest : rest_fits blocks closed ≡ true
  pub heard_codes : are_codes heard ≡ true
  pub hearing_codes : are_codes hearing ≡ true

-- four words, with 0 past the width
pub record AreInputs (width : ℕ) (inputs : List ℤ) : Type 0 where
  pub narrow : width ≤ 4
  pub four : length inputs ≡ 4
  pub padded : drop width inputs ≡ replicate (4 - width) (pos 0)
