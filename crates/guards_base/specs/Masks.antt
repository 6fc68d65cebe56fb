-- A set of channels as a byte: what its bits say of the set, found by trying each of the 128 masks.
use Rattle.std.proofs.Common.{◌≡◌, ℕ, ◌+◌, ◌/◌, ◌%◌, ◌^◌, ◌<◌, ◌≤◌, ◌==◌, Bool, true, false, ◌&&◌, nat_lt, ◌-◌, List, [], ◌∷◌, length, refl, arith, if◌then◌else◌}
use Rattle.std.specs.List.{list_all, range_with_len}
use Rattle.std.proofs.lemmas.Bool.{eqb-true}
use Rattle.guards_model.specs.Channels.{channels_where, has, numbers_below, set_of_mask, union, without}
use Rattle.guards_model.proofs.Masks.{tried}

pub both : (a b : Bool) → (a && b) ≡ true → (a ≡ true) × (b ≡ true)
both true b h = (refl, h)
both false b h = absurd cc

abbrev pub same_list : List ℕ → List ℕ → Bool
same_list [] [] = true
same_list [] (y ∷ ys) = false
same_list (x ∷ xs) [] = false
same_list (x ∷ xs) (y ∷ ys) = (x == y) && same_list xs ys

pub same_list-true : (xs ys : List ℕ) → same_list xs ys ≡ true → xs ≡ ys
same_list-true [] [] h = refl
same_list-true [] (y ∷ ys) h = absurd cc
same_list-true (x ∷ xs) [] h = absurd cc
same_list-true (x ∷ xs) (y ∷ ys) h =
    let parts = both (x == y) (same_list xs ys) h in
    let head : x ≡ y = eqb-true x y parts.0 in
    let tail : xs ≡ ys = same_list-true xs ys parts.1 in
    rw (head, tail) refl

same_bool : Bool → Bool → Bool
same_bool true b = b
same_bool false true = false
same_bool false false = true

same_bool-true : (a b : Bool) → same_bool a b ≡ true → a ≡ b
unfolding same_bool
same_bool-true true true h = refl
same_bool-true true false h = absurd cc
same_bool-true false true h = absurd cc
same_bool-true false false h = refl

-- whether bit q is set
abbrev pub bit : ℕ → ℕ → Bool
bit m q = (m / 2 ^ q) % 2 == 1

-- ---- a test of each mask and channel

each_channel : (p : ℕ → ℕ → Bool) → ℕ → Bool
each_channel p m = list_all (p m) (range_with_len 0 7)

tried_both : (p : ℕ → ℕ → Bool) → list_all (λ m. list_all (p m) (range_with_len 0 7)) (range_with_len 0 128) ≡ true
    → (m q : ℕ) → m < 128 → q < 7 → p m q ≡ true
tried_both p all m q low high =
    tried (p m) 7 0 q (tried (λ m. list_all (p m) (range_with_len 0 7)) 128 0 m all (omega arith) low) (omega arith)
    high

abbrev is_bit : ℕ → ℕ → Bool
is_bit m q = same_bool (has (set_of_mask m) q) (bit m q)

each_bit : list_all (λ m. list_all (is_bit m) (range_with_len 0 7)) (range_with_len 0 128) ≡ true
unfolding channels_where set_of_mask same_bool
each_bit = refl

pub has-set_of_mask : (m q : ℕ) → m < 128 → q < 7 → has (set_of_mask m) q ≡ ((m / 2 ^ q) % 2 == 1)
has-set_of_mask m q low high = same_bool-true _ _ (tried_both is_bit each_bit m q low high)

-- ---- a set with a channel, and one without it

abbrev pub mask_with : ℕ → ℕ → ℕ
mask_with m q = if bit m q then m else m + 2 ^ q

abbrev pub mask_without : ℕ → ℕ → ℕ
mask_without m q = m - (if bit m q then 2 ^ q else 0)

abbrev is_with : ℕ → ℕ → Bool
is_with m q = nat_lt (mask_with m q) 128 && same_list (set_of_mask (mask_with m q)) (union (set_of_mask m) (q ∷ []))

each_with : list_all (λ m. list_all (is_with m) (range_with_len 0 7)) (range_with_len 0 128) ≡ true
unfolding channels_where set_of_mask
each_with = refl

with_parts : (m q : ℕ) → m < 128 → q < 7 →
    (nat_lt (mask_with m q) 128 ≡ true)
    × (same_list (set_of_mask (mask_with m q)) (union (set_of_mask m) (q ∷ [])) ≡ true)
with_parts m q low high = both _ _ (tried_both is_with each_with m q low high)

pub mask_with-below : (m q : ℕ) → m < 128 → q < 7 → mask_with m q < 128
mask_with-below m q low high = grind (arith, (with_parts m q low high).0)

pub set_of_mask-with : (m q : ℕ) → m < 128 → q < 7 → set_of_mask (mask_with m q) ≡ union (set_of_mask m) (q ∷ [])
set_of_mask-with m q low high = same_list-true _ _ (with_parts m q low high).1

abbrev is_without : ℕ → ℕ → Bool
is_without m q = nat_lt (mask_without m q) 128
    && same_list (set_of_mask (mask_without m q)) (without (set_of_mask m) (q ∷ []))

each_without : list_all (λ m. list_all (is_without m) (range_with_len 0 7)) (range_with_len 0 128) ≡ true
unfolding channels_where set_of_mask
each_without = refl

pub set_of_mask-without : (m q : ℕ) → m < 128 → q < 7 →
    set_of_mask (mask_without m q) ≡ without (set_of_mask m) (q ∷ [])
set_of_mask-without m q low high = same_list-true _ _ (both _ _ (tried_both is_without each_without m q low high)).1

-- ---- the number of channels

abbrev pub bit_count : ℕ → ℕ
bit_count m = m % 2 + (m / 2) % 2 + (m / 4) % 2 + (m / 8) % 2 + (m / 16) % 2 + (m / 32) % 2 + (m / 64) % 2

abbrev is_counted : ℕ → Bool
is_counted m = length (set_of_mask m) == bit_count m

each_counted : list_all is_counted (range_with_len 0 128) ≡ true
unfolding channels_where set_of_mask
each_counted = refl

pub length-set_of_mask : (m : ℕ) → m < 128 → length (set_of_mask m) ≡ bit_count m
length-set_of_mask m below = eqb-true _ _ (tried is_counted 128 0 m each_counted (omega arith) below)

-- ---- all channels of a mission

abbrev pub mask_below : ℕ → ℕ
mask_below n = 2 ^ n - 1

abbrev is_below : ℕ → Bool
is_below n = nat_lt (mask_below n) 128 && same_list (set_of_mask (mask_below n)) (numbers_below n)

each_below : list_all is_below (range_with_len 0 8) ≡ true
unfolding channels_where set_of_mask
each_below = refl

below_parts : (n : ℕ) → n ≤ 7 →
    (nat_lt (mask_below n) 128 ≡ true) × (same_list (set_of_mask (mask_below n)) (numbers_below n) ≡ true)
below_parts n most = both _ _ (tried is_below 8 0 n each_below (omega arith) (omega arith))

pub mask_below-below : (n : ℕ) → n ≤ 7 → mask_below n < 128
mask_below-below n most = grind (arith, (below_parts n most).0)

pub set_of_mask-below : (n : ℕ) → n ≤ 7 → set_of_mask (mask_below n) ≡ numbers_below n
set_of_mask-below n most = same_list-true _ _ (below_parts n most).1
