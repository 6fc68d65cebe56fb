-- Sets of channels as lists, masks and flags.
use Rattle.std.proofs.Common.{◌≡◌, ℕ, ◌<◌, ◌^◌, eq-eqb, ◌==◌, Bool, true, false, cond, not, ◌&&◌, ◌||◌, List, [], ◌∷◌, length, refl, sym, ap, ◌∙◌}
use Rattle.std.specs.Prelude.{nat_lt, bytes_eq}
use Rattle.std.proofs.Math.Dec.{eqb-suc-zero}
use Rattle.std.proofs.lemmas.Bool.{eqb-true}
use Rattle.std.proofs.lemmas.Slice.Eq.{bytes_eq-Decides}
use Rattle.std.specs.List.{list_all}
use Rattle.guards_model.specs.Channels.{ChannelSet, has, without, every_channel, mask, set_of_mask}
use Rattle.guards_model.specs.Frames.{is_set}
use Rattle.guards_model.proofs.AscendingLists.{member-channel, member_passes}
use Rattle.guards_model.proofs.BoolTests.{and_true, or_true}
use Rattle.guards_model.proofs.Counting.{has-head}
use Rattle.guards_model.proofs.Tables.{every_has}
use Rattle.guards_model.proofs.Numbers.{every_set, is_set_of_mask, sublists}

-- ---- tests of all members

none_by : (b : ChannelSet) (x : ℕ) (rest : ChannelSet) (s : Bool) → has b x ≡ s →
    (length (without rest b) == 0) ≡ list_all (has b) rest →
    (length (cond (not s) (x ∷ without rest b) (without rest b)) == 0) ≡ (s && list_all (has b) rest)
none_by b x rest true e h = h
none_by b x rest false e h = eqb-suc-zero (length (without rest b))

pub none_left : (a b : ChannelSet) → (length (without a b) == 0) ≡ list_all (has b) a
none_left [] b = refl
none_left (x ∷ a) b = none_by b x a (has b x) refl (none_left a b)

all_of : (P : ℕ → Bool) (xs : List ℕ) → ((q : ℕ) → has xs q ≡ true → P q ≡ true) → list_all P xs ≡ true
all_of P [] h = refl
all_of P (x ∷ xs) h = and_true (P x) (list_all P xs) (h x (has-head x xs))
    (all_of P xs (λ q k. h q (or_true (x == q) (has xs q) k)))

pub same_bool : (a b : Bool) → (a ≡ true → b ≡ true) → (b ≡ true → a ≡ true) → a ≡ b
same_bool true true h k = refl
same_bool true false h k = sym (h refl)
same_bool false true h k = k refl
same_bool false false h k = refl

pub same_members : (P : ℕ → Bool) (xs ys : List ℕ) → ((q : ℕ) → has xs q ≡ has ys q) → list_all P xs ≡ list_all P ys
same_members P xs ys same =
    same_bool (list_all P xs) (list_all P ys)
    (λ h. all_of P ys (λ q k. member_passes P xs q h (same q ∙ k)))
    (λ h. all_of P xs (λ q k. member_passes P ys q h (sym (same q) ∙ k)))

-- ---- masks

alike : Bool → Bool → Bool
alike true b = b
alike false b = not b

alike_is : (a b : Bool) → alike a b ≡ true → a ≡ b
unfolding alike
alike_is true true h = refl
alike_is true false h = absurd cc
alike_is false true h = absurd cc
alike_is false false h = refl

below_alike : ChannelSet → Bool
below_alike set = list_all (λ b. alike (nat_lt (mask set) (2 ^ b)) (list_all (λ q. nat_lt q b) set)) every_channel

each_alike : list_all below_alike (sublists every_channel) ≡ true
unfolding below_alike alike mask
each_alike = refl

at_place : (P : ℕ → Bool) (q : ℕ) → q < 7 → list_all P every_channel ≡ true → P q ≡ true
at_place P q h k = member_passes P every_channel q k (every_has q h)

pub below_mask : (set : ChannelSet) (bound : ℕ) → is_set set ≡ true → bound < 7 →
    nat_lt (mask set) (2 ^ bound) ≡ list_all (λ q. nat_lt q bound) set
unfolding below_alike
below_mask set bound h low =
    alike_is (nat_lt (mask set) (2 ^ bound)) (list_all (λ q. nat_lt q bound) set)
    (at_place (λ b. alike (nat_lt (mask set) (2 ^ b)) (list_all (λ q. nat_lt q b) set)) bound low
    (every_set below_alike each_alike set h))

-- sets with the same mask
pub masks_tell : (a b : ChannelSet) (m n : ℕ) → m ≡ mask a → n ≡ mask b → a ≡ set_of_mask m → b ≡ set_of_mask n →
    (m == n) ≡ bytes_eq a b
masks_tell a b m n e f g h =
    same_bool (m == n) (bytes_eq a b) (λ k. (bytes_eq-Decides a b).1 (g ∙ ap set_of_mask (eqb-true m n k) ∙ sym h))
    (λ k. eq-eqb m n (e ∙ ap mask ((bytes_eq-Decides a b).0 k) ∙ sym f))

-- what each channel passes that is in a set
pub all_members : (P : ℕ → Bool) (set : ChannelSet) (m : ℕ) → set ≡ set_of_mask m → m < 128 →
    ((q : ℕ) → q < 7 → (not (has set q) || P q) ≡ true) → list_all P set ≡ true
all_members P set m e low h =
    all_of P set (λ q there. second (has set q) (P q) there
    (h q (member-channel set q (ap is_set e ∙ is_set_of_mask m low) there)))
  where
    second : (a b : Bool) → a ≡ true → (not a || b) ≡ true → b ≡ true
    second true b k j = j
    second false b k j = absurd (wrong k)
      where
        wrong : false ≡ true → ⊥
        wrong i = cc

pub fails_for : (P : ℕ → Bool) (set : ChannelSet) (q : ℕ) → (not (has set q) || P q) ≡ false → list_all P set ≡ false
fails_for P set q h = by_all (list_all P set) refl
  where
    parts : (a b : Bool) → (not a || b) ≡ false → (a ≡ true) × (b ≡ false)
    parts true b k = (refl, k)
    parts false b k = absurd (wrong k)
      where
        wrong : true ≡ false → ⊥
        wrong i = cc

    clash : true ≡ false → ⊥
    clash k = cc

    by_all : (s : Bool) → list_all P set ≡ s → s ≡ false
    by_all false e = refl
    by_all true e = absurd (clash
        (sym (member_passes P set q e (parts (has set q) (P q) h).0) ∙ (parts (has set q) (P q) h).1))
