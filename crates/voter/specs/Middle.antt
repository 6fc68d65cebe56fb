-- The place of a word in the ascending order of some words.
use Rattle.std.specs.Prelude.{◌-◌, ◌/◌, Bool, ◌&&◌, nat_lt, nat_le, ℤ, int_lt, int_le, List, length, count_by}

-- of k words, at most (k - 1) / 2 are less than this one, and more than (k - 1) / 2 are not greater
unfoldable pub stands_in_middle : List ℤ → ℤ → Bool
stands_in_middle words w =
    nat_le (count_by (λ v. int_lt v w) words) ((length words - 1) / 2)
    && nat_lt ((length words - 1) / 2) (count_by (λ v. int_le v w) words)
