-- The mask of the channels that pass a test, and the set that it stands for.
use Rattle.std.proofs.Common.{◌≡◌, ℕ, ◌+◌, ◌<◌, Bool, true, false, cond, ◌&&◌, List, [], ◌∷◌, refl, sym, arith, if◌then◌else◌}
use Rattle.std.specs.List.{list_all, range_with_len}
use Rattle.guards_model.specs.Channels.{Channel, by_channel, channels_where, has, set_of_mask}
use Rattle.guards_base.specs.Masks.{bit, has-set_of_mask, same_list, same_list-true, both}
use Rattle.guards_model.proofs.Masks.{tried}

-- the mask of the channels that pass the test
abbrev pub mask_where : (Channel → Bool) → ℕ
mask_where f =
    (if f 0 then 1 else 0) + (if f 1 then 2 else 0) + (if f 2 then 4 else 0) + (if f 3 then 8 else 0) + (if f 4 then 16
    else 0)
    + (if f 5 then 32 else 0) + (if f 6 then 64 else 0)

-- ---- the set of that mask, by trying each seven truth values

abbrev either_way : (Bool → Bool) → Bool
either_way p = p true && p false

either_way-true : (p : Bool → Bool) → either_way p ≡ true → (b : Bool) → p b ≡ true
either_way-true p h true = (both (p true) (p false) h).0
either_way-true p h false = (both (p true) (p false) h).1

abbrev keep_if : Bool → ℕ → List ℕ → List ℕ
keep_if b x xs = cond b (x ∷ xs) xs

abbrev kept : Bool → Bool → Bool → Bool → Bool → Bool → Bool → List ℕ
kept a b c d e f g = keep_if a 0 (keep_if b 1 (keep_if c 2 (keep_if d 3 (keep_if e 4 (keep_if f 5 (keep_if g 6 []))))))

abbrev weighed : Bool → Bool → Bool → Bool → Bool → Bool → Bool → ℕ
weighed a b c d e f g = cond a 1 0 + cond b 2 0 + cond c 4 0 + cond d 8 0 + cond e 16 0 + cond f 32 0 + cond g 64 0

abbrev is_kept : Bool → Bool → Bool → Bool → Bool → Bool → Bool → Bool
is_kept a b c d e f g = same_list (set_of_mask (weighed a b c d e f g)) (kept a b c d e f g)

each_kept : either_way (λ a.
    either_way (λ b. either_way
    (λ c. either_way (λ d. either_way (λ e. either_way (λ f. either_way (λ g. is_kept a b c d e f g))))))) ≡ true
unfolding channels_where set_of_mask
each_kept = refl

set_kept : (a b c d e f g : Bool) → set_of_mask (weighed a b c d e f g) ≡ kept a b c d e f g
set_kept a b c d e f g =
    let at_a = either_way-true
    (λ a. either_way (λ b. either_way
    (λ c. either_way (λ d. either_way (λ e. either_way (λ f. either_way (λ g. is_kept a b c d e f g))))))) each_kept
    a in
    let at_b = either_way-true
    (λ b. either_way (λ c. either_way
    (λ d. either_way (λ e. either_way (λ f. either_way (λ g. is_kept a b c d e f g)))))) at_a b in
    let at_c = either_way-true
    (λ c. either_way (λ d. either_way (λ e. either_way (λ f. either_way (λ g. is_kept a b c d e f g))))) at_b c in
    let at_d = either_way-true (λ d. either_way (λ e. either_way (λ f. either_way (λ g. is_kept a b c d e f g)))) at_c
    d in
    let at_e = either_way-true (λ e. either_way (λ f. either_way (λ g. is_kept a b c d e f g))) at_d e in
    let at_f = either_way-true (λ f. either_way (λ g. is_kept a b c d e f g)) at_e f in
    same_list-true _ _ (either_way-true (λ g. is_kept a b c d e f g) at_f g)

pub set_where : (f : Channel → Bool) → set_of_mask (mask_where f) ≡ channels_where f
unfolding channels_where
set_where f = set_kept (f 0) (f 1) (f 2) (f 3) (f 4) (f 5) (f 6)

-- ---- a set as a table

pub flags_of_mask : (m : ℕ) → m < 128 → by_channel (bit m) ≡ by_channel (has (set_of_mask m))
unfolding by_channel
flags_of_mask m below =
    let at : (q : ℕ) → q < 7 → bit m q ≡ has (set_of_mask m) q = λ q low. sym (has-set_of_mask m q below low) in
    let a = at 0 (omega arith) in
    let b = at 1 (omega arith) in
    let c = at 2 (omega arith) in
    let d = at 3 (omega arith) in
    let e = at 4 (omega arith) in
    let f = at 5 (omega arith) in
    let g = at 6 (omega arith) in
    cc

abbrev is_whole : ℕ → Bool
is_whole m = same_list (set_of_mask m) (channels_where (has (set_of_mask m)))

each_whole : list_all is_whole (range_with_len 0 128) ≡ true
unfolding channels_where set_of_mask
each_whole = refl

pub members_of_mask : (m : ℕ) → m < 128 → set_of_mask m ≡ channels_where (has (set_of_mask m))
members_of_mask m below = same_list-true _ _ (tried is_whole 128 0 m each_whole (omega arith) below)
