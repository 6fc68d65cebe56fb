-- What a member holds, owes and resolves rests on what it received of the other members in the rounds that there are.
use Rattle.std.proofs.Common.{◌≡◌, ℕ, zero, suc, ◌+◌, ◌-◌, ◌≤◌, ◌==◌, Bool, true, false, cond, not, ◌&&◌, ◌||◌, List, [], ◌∷◌, length, Option, None, refl, ap, ◌∙◌, eq-eqb, arith}
use Rattle.std.specs.Prelude.{map, filter, flat_map, reverse}
use Rattle.std.specs.List.{list_all}
use Rattle.std.proofs.lemmas.Bool.{eqb-true}
use Rattle.guards_model.specs.Channels.{Channel, ChannelSet, has, without, tolerated_faults}
use Rattle.guards_model.specs.Frames.{SourceValue, ItemValue}
use Rattle.guards_model.specs.OralMessages.{PathValue, word_for, held_value, resolved_value, items_owed, agreed_by, majority_value, paths}
use Rattle.guards_model.proofs.BoolTests.{both}
use Rattle.guards_model.proofs.ListTests.{all-filter, all-append}
use Rattle.guards_laws.proofs.CycleParts.{by_channel-same}
use Rattle.guards_nodes.specs.NodeSteps.{Received}

-- the labels of a path are members
abbrev is_within : ChannelSet → PathValue → Bool
is_within active y = list_all (has active) y

abbrev is_of : ChannelSet → ℕ → PathValue → Bool
is_of active k y = length y == k && is_within active y

pub two_true : (a b : Bool) → a ≡ true → b ≡ true → (a && b) ≡ true
two_true true true h k = refl
two_true true false h k = k
two_true false b h k = h

pub all_of_flat : {A B : Type 0} (P : B → Bool) (Q : A → Bool) (f : A → List B) (xs : List A) → list_all Q xs ≡ true →
    ((x : A) → Q x ≡ true → list_all P (f x) ≡ true) → list_all P (flat_map f xs) ≡ true
all_of_flat P Q f [] h k = refl
all_of_flat P Q f (x ∷ xs) h k =
    let parts = both (Q x) (list_all Q xs) h in
    all-append P (f x) (flat_map f xs) (k x parts.0) (all_of_flat P Q f xs parts.1 k)

all_on : {A B : Type 0} (P : B → Bool) (Q : A → Bool) (f : A → B) (xs : List A) → list_all Q xs ≡ true →
    ((x : A) → Q x ≡ true → P (f x) ≡ true) → list_all P (map f xs) ≡ true
all_on P Q f [] h k = refl
all_on P Q f (x ∷ xs) h k =
    let parts = both (Q x) (list_all Q xs) h in
    two_true (P (f x)) (list_all P (map f xs)) (k x parts.0) (all_on P Q f xs parts.1 k)

or_right : (a b : Bool) → b ≡ true → (a || b) ≡ true
or_right true b h = refl
or_right false b h = h

or_left : (a b : Bool) → a ≡ true → (a || b) ≡ true
or_left true b h = refl
or_left false b h = absurd cc

all_weaken : {A : Type 0} (P Q : A → Bool) (xs : List A) → ((x : A) → P x ≡ true → Q x ≡ true) → list_all P xs ≡ true →
    list_all Q xs ≡ true
all_weaken P Q [] f h = refl
all_weaken P Q (x ∷ xs) f h =
    let parts = both (P x) (list_all P xs) h in
    two_true (Q x) (list_all Q xs) (f x parts.0) (all_weaken P Q xs f parts.1)

-- each of a list is in it
all_in : (xs : List ℕ) → list_all (has xs) xs ≡ true
all_in [] = refl
all_in (x ∷ xs) =
    two_true (has (x ∷ xs) x) (list_all (has (x ∷ xs)) xs) (or_left (x == x) (has xs x) (eq-eqb x x refl))
    (all_weaken (has xs) (has (x ∷ xs)) xs (λ y h. or_right (x == y) (has xs y) h) (all_in xs))

next_within : (active : ChannelSet) (y : PathValue) → list_all (has active) (without active y) ≡ true
next_within active y = all-filter (has active) (λ q. not (has y q)) active (all_in active)

paths_within : (active : ChannelSet) (k : ℕ) → list_all (is_of active k) (paths active k) ≡ true
paths_within active zero = refl
paths_within active (suc k) =
    all_of_flat (is_of active (suc k)) (is_of active k) (λ y. map (λ j. j ∷ y) (without active y)) (paths active k)
    (paths_within active k)
    (λ y h.
    let parts = both (length y == k) (is_within active y) h in
    all_on (is_of active (suc k)) (has active) (λ j. j ∷ y) (without active y) (next_within active y)
    (λ j there. two_true (suc (length y) == suc k) (has active j && is_within active y)
    (eq-eqb (suc (length y)) (suc k) (ap suc (eqb-true (length y) k parts.0)))
    (two_true (has active j) (is_within active y) there parts.1)))

pub map_on : {A B : Type 0} (P : A → Bool) (f g : A → B) (xs : List A) → list_all P xs ≡ true →
    ((x : A) → P x ≡ true → f x ≡ g x) → map f xs ≡ map g xs
map_on P f g [] h k = refl
map_on P f g (x ∷ xs) h k =
    let parts = both (P x) (list_all P xs) h in
    ap (λ y. y ∷ map f xs) (k x parts.0) ∙ ap (λ ys. g x ∷ ys) (map_on P f g xs parts.1 k)

cond_same : {A : Type 0} (b : Bool) (x x' y y' : A) → (b ≡ true → x ≡ x') → (b ≡ false → y ≡ y') →
    cond b x y ≡ cond b x' y'
cond_same true x x' y y' f g = f refl
cond_same false x x' y y' f g = g refl

module _ (active : ChannelSet) (width : ℕ) (me : Channel) (own : SourceValue) (a b : Received) (n : ℕ)
    (same : (r : ℕ) (j : Channel) → 1 ≤ r → r ≤ n → has active j ≡ true → (j == me) ≡ false → a r j ≡ b r j) where
  held_same : (y : PathValue) → length y ≤ n → is_within active y ≡ true →
      held_value active width me own a y ≡ held_value active width me own b y
  held_same [] short within = refl
  held_same (j ∷ y) short within =
      let parts = both (has active j) (is_within active y) within in
      cond_same (j == me) (held_value active width me own a y) (held_value active width me own b y)
      (word_for width (reverse y) (a (length (j ∷ y)) j)) (word_for width (reverse y) (b (length (j ∷ y)) j))
      (λ mine. held_same y (omega (arith, short)) parts.1)
      (λ other. ap (λ items. word_for width (reverse y) items)
      (same (length (j ∷ y)) j (omega arith) short parts.0 other))

  pub owed_same : (round : ℕ) → round - 1 ≤ n →
      items_owed active width me own a round ≡ items_owed active width me own b round
  owed_same round few =
      map_on (is_of active (round - 1))
      (λ y. record { path = reverse y; word = held_value active width me own a y })
      (λ y. record { path = reverse y; word = held_value active width me own b y })
      (filter (λ y. not (has y me)) (paths active (round - 1)))
      (all-filter (is_of active (round - 1)) (λ y. not (has y me)) (paths active (round - 1))
      (paths_within active (round - 1)))
      (λ y h.
      let parts = both (length y == round - 1) (is_within active y) h in
      let size : length y ≡ round - 1 = eqb-true (length y) (round - 1) parts.0 in
      let I : Option SourceValue → ItemValue = λ w. record { path = reverse y; word = w } in
      ap I (held_same y (omega (arith, size, few)) parts.1))

  resolved_same : (k : ℕ) (y : PathValue) → length y + k ≤ n → is_within active y ≡ true →
      resolved_value active width me own a k y ≡ resolved_value active width me own b k y
  resolved_same zero y few within = held_same y (omega (arith, few)) within
  resolved_same (suc k) y few within =
      ap majority_value
      (map_on (has active) (λ j. resolved_value active width me own a k (j ∷ y))
      (λ j. resolved_value active width me own b k (j ∷ y)) (without active y) (next_within active y)
      (λ j there. resolved_same k (j ∷ y) (omega (arith, few))
      (two_true (has active j) (is_within active y) there within)))

  pub agreed_same : tolerated_faults active + 1 ≤ n → agreed_by active width me own a ≡ agreed_by active width me own b
  agreed_same few =
      by_channel-same (λ s. cond (has active s)
      (resolved_value active width me own a (tolerated_faults active) (s ∷ [])) None)
      (λ s. cond (has active s) (resolved_value active width me own b (tolerated_faults active) (s ∷ [])) None)
      (λ s low. cond_same (has active s) (resolved_value active width me own a (tolerated_faults active) (s ∷ []))
      (resolved_value active width me own b (tolerated_faults active) (s ∷ [])) None None
      (λ there. resolved_same (tolerated_faults active) (s ∷ []) (omega (arith, few))
      (two_true (has active s) true there refl)) (λ h. refl))
