-- The place of a path by the places of its labels alone: computed for all 128 sets of channels at once.
use Rattle.std.proofs.Common.{◌≡◌, ℕ, ◌+◌, ◌-◌, ◌*◌, ◌≤◌, ◌==◌, Bool, true, cond, ◌&&◌, [], ◌∷◌, length, Some, refl, subst, arith}
use Rattle.std.specs.Prelude.{count_by, nat_lt, nat_le, slice_get}
use Rattle.std.specs.List.{list_all}
use Rattle.std.proofs.lemmas.Bool.{eqb-true, leb-true}
use Rattle.guards_model.specs.Channels.{Channel, ChannelSet, every_channel}
use Rattle.guards_model.specs.Frames.{is_set}
use Rattle.guards_model.specs.OralMessages.{PathValue, paths}
use Rattle.oral_messages.specs.Ranks.{is_path, rank}
use Rattle.guards_model.proofs.BoolTests.{both}
use Rattle.guards_model.proofs.Numbers.{sublists, every_set}
use Rattle.oral_messages.proofs.RankLaws.{all_get, path_at}

-- how many members stand below a label
abbrev pub low : ChannelSet → Channel → ℕ
low active q = count_by (λ x. nat_lt x q) active

abbrev pub one_less : ℕ → ℕ → ℕ
one_less a b = cond (nat_lt a b) 1 0

by_places : ChannelSet → PathValue → Bool
by_places active (a ∷ []) = rank active (a ∷ []) == low active a
by_places active (b ∷ a ∷ []) =
    (rank active (b ∷ a ∷ []) == low active a * (length active - 1) + (low active b - one_less a b))
    && nat_le (one_less a b) (low active b)
by_places active (c ∷ b ∷ a ∷ []) =
    (rank active (c ∷ b ∷ a ∷ []) == rank active
    (b ∷ a ∷ []) * (length active - 2) + ((low active c - one_less a c) - one_less b c))
    && nat_le (one_less a c + one_less b c) (low active c)
by_places active y = true

all_by_places : ChannelSet → Bool
all_by_places active = (list_all (by_places active) (paths active 1) && list_all (by_places active) (paths active 2))
    && list_all (by_places active) (paths active 3)

each_by_places : list_all all_by_places (sublists every_channel) ≡ true
unfolding all_by_places by_places rank
each_by_places = refl

counts_right : ChannelSet → Bool
counts_right active =
    ((length (paths active 1) == length active) && (length (paths active 2) == length active * (length active - 1)))
    && ((length (paths active 3) == length active * (length active - 1) * (length active - 2))
    && nat_le (length active) 7)

each_count : list_all counts_right (sublists every_channel) ≡ true
unfolding counts_right
each_count = refl

of_set : (p : ChannelSet → Bool) → list_all p (sublists every_channel) ≡ true → (active : ChannelSet) →
    is_set active ≡ true → p active ≡ true
of_set p each active h = every_set p each active h

place_test : (active : ChannelSet) (y : PathValue) (k : ℕ) → is_set active ≡ true → is_path active y ≡ true →
    length y ≡ k → k ≤ 3 → list_all (by_places active) (paths active k) ≡ true → by_places active y ≡ true
place_test active y k set path long small h =
    let there : slice_get (paths active k) (rank active y) ≡ Some y =
    subst (λ n. slice_get (paths active n) (rank active y) ≡ Some y) long
    (path_at active y set path (omega (arith, long, small))) in
    all_get (by_places active) (paths active k) (rank active y) y h there

parts_of : (active : ChannelSet) → is_set active ≡ true →
    (list_all (by_places active) (paths active 1) ≡ true) × (list_all (by_places active) (paths active 2) ≡ true)
    × (list_all (by_places active) (paths active 3) ≡ true)
unfolding all_by_places
parts_of active set =
    let h = of_set all_by_places each_by_places active set in
    let front = both (list_all (by_places active) (paths active 1) && list_all (by_places active) (paths active 2))
    (list_all (by_places active) (paths active 3)) h in
    let two = both (list_all (by_places active) (paths active 1)) (list_all (by_places active) (paths active 2))
    front.0 in
    (two.0, two.1, front.1)

pub first_place : (active : ChannelSet) (a : Channel) → is_set active ≡ true → is_path active (a ∷ []) ≡ true →
    rank active (a ∷ []) ≡ low active a
unfolding by_places
first_place active a set path =
    eqb-true (rank active (a ∷ [])) (low active a)
    (place_test active (a ∷ []) 1 set path refl (omega arith) (parts_of active set).0)

pub second_place : (active : ChannelSet) (b a : Channel) → is_set active ≡ true → is_path active (b ∷ a ∷ []) ≡ true →
    (rank active (b ∷ a ∷ []) ≡ low active a * (length active - 1) + (low active b - one_less a b))
    × (one_less a b ≤ low active b)
unfolding by_places
second_place active b a set path =
    let h = place_test active (b ∷ a ∷ []) 2 set path refl (omega arith) (parts_of active set).1 in
    let two = both (rank active (b ∷ a ∷ []) == low active a * (length active - 1) + (low active b - one_less a b))
    (nat_le (one_less a b) (low active b)) h in (
      eqb-true (rank active (b ∷ a ∷ [])) (low active a * (length active - 1) + (low active b - one_less a b)) two.0,
      leb-true (one_less a b) (low active b) two.1,
    )

pub third_place : (active : ChannelSet) (c b a : Channel) → is_set active ≡ true →
    is_path active (c ∷ b ∷ a ∷ []) ≡ true →
    (rank active (c ∷ b ∷ a ∷ [])
    ≡ rank active (b ∷ a ∷ []) * (length active - 2) + ((low active c - one_less a c) - one_less b c))
    × (one_less a c + one_less b c ≤ low active c)
unfolding by_places
third_place active c b a set path =
    let h = place_test active (c ∷ b ∷ a ∷ []) 3 set path refl (omega arith) (parts_of active set).2 in
    let two = both (rank active (c ∷ b ∷ a ∷ []) == rank active
    (b ∷ a ∷ []) * (length active - 2) + ((low active c - one_less a c) - one_less b c))
    (nat_le (one_less a c + one_less b c) (low active c)) h in (
      eqb-true (rank active (c ∷ b ∷ a ∷ []))
          (rank active (b ∷ a ∷ []) * (length active - 2) + ((low active c - one_less a c) - one_less b c)) two.0,
      leb-true (one_less a c + one_less b c) (low active c) two.1,
    )

-- how many paths there are
pub record AreSized (active : ChannelSet) : Type 0 where
  pub seven : length active ≤ 7
  pub first : length (paths active 1) ≡ length active
  pub second : length (paths active 2) ≡ length active * (length active - 1)
  pub third : length (paths active 3) ≡ length active * (length active - 1) * (length active - 2)

pub sizes : (active : ChannelSet) → is_set active ≡ true → AreSized active
unfolding counts_right
sizes active set =
    let h = of_set counts_right each_count active set in
    let front = both ((length (paths active 1) == length active)
    && (length (paths active 2) == length active * (length active - 1)))
    ((length (paths active 3) == length active * (length active - 1) * (length active - 2)) && nat_le (length active) 7)
    h in
    let one = both (length (paths active 1) == length active)
    (length (paths active 2) == length active * (length active - 1)) front.0 in
    let two = both (length (paths active 3) == length active * (length active - 1) * (length active - 2))
    (nat_le (length active) 7) front.1 in
    record {
      seven = leb-true (length active) 7 two.1;
      first = eqb-true (length (paths active 1)) (length active) one.0;
      second = eqb-true (length (paths active 2)) (length active * (length active - 1)) one.1;
      third = eqb-true (length (paths active 3)) (length active * (length active - 1) * (length active - 2)) two.0;
    }
