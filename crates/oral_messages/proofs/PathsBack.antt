-- The path at a place, computed for all 128 sets of channels at once.
use Rattle.std.proofs.Common.{◌≡◌, ℕ, zero, suc, ◌+◌, ◌-◌, ◌*◌, ◌/◌, ◌%◌, ◌<◌, Bool, true, cond, ◌&&◌, List, [], ◌∷◌, length, get_or, refl, subst, arith}
use Rattle.std.specs.Prelude.{nat_le, nat_lt, bytes_eq}
use Rattle.std.specs.List.{list_all, range_with_len}
use Rattle.std.proofs.lemmas.Bool.{leb-true}
use Rattle.std.proofs.lemmas.Slice.Eq.{bytes_eq-Decides}
use Rattle.guards_model.specs.Channels.{ChannelSet, every_channel}
use Rattle.guards_model.specs.Frames.{is_set}
use Rattle.guards_model.specs.OralMessages.{paths}
use Rattle.guards_model.proofs.BoolTests.{both}
use Rattle.guards_model.proofs.Numbers.{sublists, every_set}

-- the later label's place among all members, where it has this place among those that are left
abbrev pub skipped : ℕ → ℕ → ℕ
skipped front next = next + cond (nat_le front next) 1 0

abbrev pub two_back : ChannelSet → ℕ → List ℕ
two_back active k =
    let left = length active - 1 in
    get_or active (skipped (k / left) (k % left)) 0 ∷ get_or active (k / left) 0 ∷ []

back_right : ChannelSet → Bool
back_right active =
    list_all (λ k. bytes_eq (get_or (paths active 1) k []) (get_or active k 0 ∷ [])) (range_with_len 0 (length active))
    && list_all (λ k. bytes_eq (get_or (paths active 2) k []) (two_back active k)
    && (nat_lt (k / (length active - 1)) (length active)
    && nat_lt (skipped (k / (length active - 1)) (k % (length active - 1))) (length active)))
    (range_with_len 0 (length active * (length active - 1)))

each_back : list_all back_right (sublists every_channel) ≡ true
unfolding back_right
each_back = refl

in_range_all : (P : ℕ → Bool) (a n k : ℕ) → list_all P (range_with_len a n) ≡ true → k < n → P (a + k) ≡ true
in_range_all P a zero k h lt = absurd (omega (arith, lt))
in_range_all P a (suc n) zero h lt =
    subst (λ m. P m ≡ true) (omega arith) (both (P a) (list_all P (range_with_len (a + 1) n)) h).0
in_range_all P a (suc n) (suc k) h lt =
    subst (λ m. P m ≡ true) (omega arith)
    (in_range_all P (a + 1) n k (both (P a) (list_all P (range_with_len (a + 1) n)) h).1 (omega (arith, lt)))

backs : (active : ChannelSet) → is_set active ≡ true → back_right active ≡ true
backs active h = every_set back_right each_back active h

pub one_back_is : (active : ChannelSet) (k : ℕ) → is_set active ≡ true → k < length active →
    get_or (paths active 1) k [] ≡ get_or active k 0 ∷ []
unfolding back_right
one_back_is active k set lt =
    let h = both (list_all (λ k. bytes_eq (get_or (paths active 1) k []) (get_or active k 0 ∷ []))
    (range_with_len 0 (length active)))
    (list_all (λ k. bytes_eq (get_or (paths active 2) k []) (two_back active k)
    && (nat_lt (k / (length active - 1)) (length active)
    && nat_lt (skipped (k / (length active - 1)) (k % (length active - 1))) (length active)))
    (range_with_len 0 (length active * (length active - 1)))) (backs active set) in
    (bytes_eq-Decides (get_or (paths active 1) k []) (get_or active k 0 ∷ [])).0
    (subst (λ m. bytes_eq (get_or (paths active 1) m []) (get_or active m 0 ∷ []) ≡ true) (omega arith)
    (in_range_all (λ k. bytes_eq (get_or (paths active 1) k []) (get_or active k 0 ∷ [])) 0 (length active) k h.0 lt))

pub record TwoBack (active : ChannelSet) (k : ℕ) : Type 0 where
  pub is : get_or (paths active 2) k [] ≡ two_back active k
  pub front : k / (length active - 1) < length active
  pub next : skipped (k / (length active - 1)) (k % (length active - 1)) < length active

pub two_back_is : (active : ChannelSet) (k : ℕ) → is_set active ≡ true → k < length active * (length active - 1) →
    TwoBack active k
unfolding back_right
two_back_is active k set lt =
    let P : ℕ → Bool = λ k. bytes_eq (get_or (paths active 2) k []) (two_back active k)
    && (nat_lt (k / (length active - 1)) (length active)
    && nat_lt (skipped (k / (length active - 1)) (k % (length active - 1))) (length active)) in
    let h = both (list_all (λ k. bytes_eq (get_or (paths active 1) k []) (get_or active k 0 ∷ []))
    (range_with_len 0 (length active)))
    (list_all P (range_with_len 0 (length active * (length active - 1)))) (backs active set) in
    let same : 0 + k ≡ k = omega arith in
    let test : P k ≡ true = subst (λ m. P m ≡ true) same
    (in_range_all P 0 (length active * (length active - 1)) k h.1 lt) in
    let one = both (bytes_eq (get_or (paths active 2) k []) (two_back active k))
    (nat_lt (k / (length active - 1)) (length active)
    && nat_lt (skipped (k / (length active - 1)) (k % (length active - 1))) (length active)) test in
    let two = both (nat_lt (k / (length active - 1)) (length active))
    (nat_lt (skipped (k / (length active - 1)) (k % (length active - 1))) (length active)) one.1 in
    record {
      is = (bytes_eq-Decides (get_or (paths active 2) k []) (two_back active k)).0 one.0;
      front = leb-true (suc (k / (length active - 1))) (length active) two.0;
      next = leb-true (suc (skipped (k / (length active - 1)) (k % (length active - 1)))) (length active) two.1;
    }
