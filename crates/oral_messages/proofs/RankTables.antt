-- The ranks of the paths in ascending order are 0, 1, 2 and so on: computed for all 128 sets of channels at once.
use Rattle.std.proofs.Common.{◌≡◌, ℕ, zero, suc, ◌≤◌, Bool, true, ◌&&◌, [], length, refl, arith}
use Rattle.std.specs.Prelude.{map, reverse, bytes_eq}
use Rattle.std.specs.List.{list_all}
use Rattle.std.proofs.lemmas.Slice.Eq.{bytes_eq-Decides}
use Rattle.guards_model.specs.Channels.{ChannelSet, every_channel, numbers_below}
use Rattle.guards_model.specs.Frames.{is_set}
use Rattle.guards_model.specs.OralMessages.{paths}
use Rattle.guards_model.proofs.BoolTests.{both}
use Rattle.guards_model.proofs.Numbers.{sublists, every_set}
use Rattle.oral_messages.specs.Ranks.{rank, rank_sum}

ranked : ChannelSet → ℕ → Bool
ranked active k =
    bytes_eq (map (rank active) (paths active k)) (numbers_below (length (paths active k)))
    && bytes_eq (map (λ y. rank_sum active [] (reverse y)) (paths active k)) (numbers_below (length (paths active k)))

all_ranked : ChannelSet → Bool
all_ranked active = (ranked active 1 && ranked active 2) && ranked active 3

each_ranked : list_all all_ranked (sublists every_channel) ≡ true
unfolding all_ranked ranked rank rank_sum
each_ranked = refl

ranked_in : (active : ChannelSet) → is_set active ≡ true → all_ranked active ≡ true
ranked_in active h = every_set all_ranked each_ranked active h

at_length : (active : ChannelSet) (k : ℕ) → k ≤ 2 → all_ranked active ≡ true → ranked active (suc k) ≡ true
unfolding all_ranked
at_length active zero small h =
    (both (ranked active 1) (ranked active 2) (both (ranked active 1 && ranked active 2) (ranked active 3) h).0).0
at_length active (suc zero) small h =
    (both (ranked active 1) (ranked active 2) (both (ranked active 1 && ranked active 2) (ranked active 3) h).0).1
at_length active (suc (suc zero)) small h = (both (ranked active 1 && ranked active 2) (ranked active 3) h).1
at_length active (suc (suc (suc k))) small h = absurd (omega (arith, small))

-- the ranks of the paths of a length, ascending, are all the numbers below how many there are
pub ranks_count : (active : ChannelSet) (k : ℕ) → is_set active ≡ true → k ≤ 2 →
    map (rank active) (paths active (suc k)) ≡ numbers_below (length (paths active (suc k)))
unfolding ranked
ranks_count active k set small =
    let parts = both (bytes_eq (map (rank active) (paths active (suc k)))
    (numbers_below (length (paths active (suc k)))))
    (bytes_eq (map (λ y. rank_sum active [] (reverse y)) (paths active (suc k)))
    (numbers_below (length (paths active (suc k)))))
    (at_length active k small (ranked_in active set)) in
    (bytes_eq-Decides (map (rank active) (paths active (suc k))) (numbers_below (length (paths active (suc k))))).0
    parts.0

-- and so are their sums
pub sums_count : (active : ChannelSet) (k : ℕ) → is_set active ≡ true → k ≤ 2 →
    map (λ y. rank_sum active [] (reverse y)) (paths active (suc k)) ≡ numbers_below (length (paths active (suc k)))
unfolding ranked
sums_count active k set small =
    let parts = both (bytes_eq (map (rank active) (paths active (suc k)))
    (numbers_below (length (paths active (suc k)))))
    (bytes_eq (map (λ y. rank_sum active [] (reverse y)) (paths active (suc k)))
    (numbers_below (length (paths active (suc k)))))
    (at_length active k small (ranked_in active set)) in
    (bytes_eq-Decides (map (λ y. rank_sum active [] (reverse y)) (paths active (suc k)))
    (numbers_below (length (paths active (suc k))))).0 parts.1
