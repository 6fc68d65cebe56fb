-- The members with fewer than n lower ones are the first n, found by trying each set and each n up to seven.
use Rattle.std.proofs.Common.{◌≡◌, ℕ, ◌<◌, ◌≤◌, Bool, true, take, filter, refl, arith}
use Rattle.std.specs.Prelude.{nat_lt}
use Rattle.std.specs.List.{list_all, range_with_len}
use Rattle.guards_model.specs.Channels.{ChannelSet, channels_where, set_of_mask}
use Rattle.guards_model.proofs.Masks.{tried}
use Rattle.guards_base.specs.Masks.{same_list, same_list-true}
use Rattle.control_state.specs.Fronts.{rank_in}

abbrev is_front : ℕ → ℕ → Bool
is_front m n = same_list (filter (λ q. nat_lt (rank_in (set_of_mask m) q) n) (set_of_mask m)) (take n (set_of_mask m))

each_front : list_all (λ m. list_all (is_front m) (range_with_len 0 8)) (range_with_len 0 128) ≡ true
unfolding channels_where set_of_mask
each_front = refl

pub front_is : (set : ChannelSet) (m n : ℕ) → set ≡ set_of_mask m → m < 128 → n ≤ 7 →
    filter (λ q. nat_lt (rank_in set q) n) set ≡ take n set
front_is set m n is low most =
    let at_mask = tried (λ k. list_all (is_front k) (range_with_len 0 8)) 128 0 m each_front (omega arith) low in
    rw is (same_list-true _ _ (tried (is_front m) 8 0 n at_mask (omega arith) (omega arith)))
