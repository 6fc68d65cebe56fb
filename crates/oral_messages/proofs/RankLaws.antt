-- A path stands at its rank in the ascending list of the paths of its length, and the paths that go on from it stand
-- together, from its rank times their number on.
use Rattle.std.proofs.Common.{◌≡◌, ℕ, zero, suc, ◌+◌, ◌-◌, ◌*◌, ◌<◌, ◌≤◌, ◌==◌, Bool, true, false, cond, not, ◌&&◌, ◌||◌, List, [], ◌∷◌, ◌++◌, length, Some, take, drop, refl, sym, ap, subst, ◌∙◌, arith}
use Rattle.std.specs.Prelude.{map, filter, flat_map, count_by, nat_lt, slice_get, option_map}
use Rattle.std.specs.List.{list_all}
use Rattle.std.proofs.lemmas.Option.{slice_get-map}
use Rattle.std.proofs.lemmas.List.Concat.{flat_map-cons}
use Rattle.std.proofs.lemmas.Bool.{leb-true, eqb-true}
use Rattle.guards_model.specs.Channels.{ChannelSet, every_channel, has, without}
use Rattle.guards_model.specs.Frames.{is_set, is_channel, ascends, is_distinct}
use Rattle.guards_model.specs.OralMessages.{PathValue, paths}
use Rattle.oral_messages.specs.Ranks.{is_path, rank, below}
use Rattle.guards_model.proofs.BoolTests.{both, and_true}
use Rattle.guards_model.proofs.Numbers.{sublists, every_set}
use Rattle.guards_model.proofs.ListTests.{all-filter}
use Rattle.guards_model.proofs.AscendingLists.{member_passes}
use Rattle.std.proofs.lemmas.List.Sums.{sum_by-cons}
use Rattle.guards_model.proofs.Counting.{has-without}

-- ---- lists

pub all_get : {A : Type 0} (P : A → Bool) (xs : List A) (i : ℕ) (x : A) → list_all P xs ≡ true →
    slice_get xs i ≡ Some x → P x ≡ true
all_get P [] i x h e = absurd cc
all_get P (u ∷ xs) zero x h e = let s : u ≡ x = cc in subst (λ y. P y ≡ true) s (both (P u) (list_all P xs) h).0
all_get P (u ∷ xs) (suc i) x h e = all_get P xs i x (both (P u) (list_all P xs) h).1 e

get_left : {A : Type 0} (xs ys : List A) (i : ℕ) (x : A) → slice_get xs i ≡ Some x → slice_get (xs ++ ys) i ≡ Some x
get_left [] ys i x e = absurd cc
get_left (u ∷ xs) ys zero x e = e
get_left (u ∷ xs) ys (suc i) x e = get_left xs ys i x e

get_right : {A : Type 0} (xs ys : List A) (i j : ℕ) → j ≡ length xs + i → slice_get (xs ++ ys) j ≡ slice_get ys i
get_right [] ys i j e = ap (slice_get ys) (e ∙ omega arith)
get_right (u ∷ xs) ys i zero e = absurd (omega (arith, e))
get_right (u ∷ xs) ys i (suc j) e = get_right xs ys i j (omega (arith, e))

pub take_front : {A : Type 0} (xs ys : List A) (n : ℕ) → n ≡ length xs → take n (xs ++ ys) ≡ xs
take_front [] ys zero e = refl
take_front [] ys (suc n) e = absurd (omega (arith, e))
take_front (u ∷ xs) ys zero e = absurd (omega (arith, e))
take_front (u ∷ xs) ys (suc n) e = ap (λ zs. u ∷ zs) (take_front xs ys n (omega (arith, e)))

drop_front : {A : Type 0} (xs ys : List A) (i j : ℕ) → j ≡ length xs + i → drop j (xs ++ ys) ≡ drop i ys
drop_front [] ys i j e = ap (λ k. drop k ys) (e ∙ omega arith)
drop_front (u ∷ xs) ys i zero e = absurd (omega (arith, e))
drop_front (u ∷ xs) ys i (suc j) e = drop_front xs ys i j (omega (arith, e))

-- ---- lists of pieces of one length

pub in_piece : {A B : Type 0} (f : A → List B) (w : ℕ) (xs : List A) (i p k : ℕ) (x : A) (z : B) →
    list_all (λ y. length (f y) == w) xs ≡ true →
    slice_get xs i ≡ Some x → slice_get (f x) p ≡ Some z → k ≡ i * w + p → slice_get (flat_map f xs) k ≡ Some z
in_piece f w [] i p k x z even e h s = absurd cc
in_piece f w (u ∷ xs) zero p k x z even e h s =
    let same : u ≡ x = cc in
    let here : slice_get (f u) p ≡ Some z = subst (λ y. slice_get (f y) p ≡ Some z) (sym same) h in
    let place : k ≡ p = omega (arith, s) in
    ap (λ ys. slice_get ys k) (flat_map-cons f u xs) ∙ ap (slice_get (f u ++ flat_map f xs)) place
    ∙ get_left (f u) (flat_map f xs) p z here
in_piece f w (u ∷ xs) (suc i) p k x z even e h s =
    let parts = both (length (f u) == w) (list_all (λ y. length (f y) == w) xs) even in
    let long : length (f u) ≡ w = eqb-true (length (f u)) w parts.0 in
    ap (λ ys. slice_get ys k) (flat_map-cons f u xs)
    ∙ get_right (f u) (flat_map f xs) (i * w + p) k (grind (arith, s, long))
    ∙ in_piece f w xs i p (i * w + p) x z parts.1 e h refl

pub piece_is : {A B : Type 0} (f : A → List B) (w : ℕ) (xs : List A) (i k : ℕ) (x : A) →
    list_all (λ y. length (f y) == w) xs ≡ true →
    slice_get xs i ≡ Some x → k ≡ i * w → take w (drop k (flat_map f xs)) ≡ f x
piece_is f w [] i k x even e s = absurd cc
piece_is f w (u ∷ xs) zero k x even e s =
    let parts = both (length (f u) == w) (list_all (λ y. length (f y) == w) xs) even in
    let long : length (f u) ≡ w = eqb-true (length (f u)) w parts.0 in
    let same : u ≡ x = cc in
    let none : k ≡ 0 = omega (arith, s) in
    ap (λ j. take w (drop j (flat_map f (u ∷ xs)))) none
    ∙ ap (take w) (flat_map-cons f u xs)
    ∙ take_front (f u) (flat_map f xs) w (sym long)
    ∙ ap f same
piece_is f w (u ∷ xs) (suc i) k x even e s =
    let parts = both (length (f u) == w) (list_all (λ y. length (f y) == w) xs) even in
    let long : length (f u) ≡ w = eqb-true (length (f u)) w parts.0 in
    ap (λ ys. take w (drop k ys)) (flat_map-cons f u xs)
    ∙ ap (take w) (drop_front (f u) (flat_map f xs) (i * w) k (grind (arith, s, long)))
    ∙ piece_is f w xs i (i * w) x parts.1 e refl

-- ---- the place of a label

unfoldable pub one_if : Bool → ℕ
one_if b = cond b 1 0

pub count-cons : {A : Type 0} (p : A → Bool) (x : A) (xs : List A) → count_by p (x ∷ xs) ≡ one_if (p x) + count_by p xs
unfolding one_if
count-cons p x xs = sum_by-cons (λ y. cond (p y) 1 0) x xs

ascends_by : (t : ℕ → Bool) (z : ℕ) (zs : List ℕ) (b : Bool) → list_all (λ y. nat_lt z y) (filter t zs) ≡ true →
    ascends (filter t zs) ≡ true → ascends (cond b (z ∷ filter t zs) (filter t zs)) ≡ true
ascends_by t z zs true first rest =
    and_true (list_all (λ y. nat_lt z y) (filter t zs)) (ascends (filter t zs)) first rest
ascends_by t z zs false first rest = rest

pub ascends-filter : (t : ℕ → Bool) (zs : List ℕ) → ascends zs ≡ true → ascends (filter t zs) ≡ true
ascends-filter t [] h = refl
ascends-filter t (z ∷ zs) h =
    let parts = both (list_all (λ y. nat_lt z y) zs) (ascends zs) h in
    ascends_by t z zs (t z) (all-filter (λ y. nat_lt z y) t zs parts.0) (ascends-filter t zs parts.1)

none_below : (z : ℕ) (zs : List ℕ) → list_all (λ y. nat_lt z y) zs ≡ true → count_by (λ q. nat_lt q z) zs ≡ 0
unfolding one_if
none_below z [] h = refl
none_below z (u ∷ zs) h =
    let parts = both (nat_lt z u) (list_all (λ y. nat_lt z y) zs) h in
    let later : one_if (nat_lt u z) ≡ 0 = no (nat_lt u z) refl (leb-true (suc z) u parts.0) in
    omega (arith, later, count-cons (λ q. nat_lt q z) u zs, none_below z zs parts.1)
  where
    no : (b : Bool) → nat_lt u z ≡ b → z < u → one_if b ≡ 0
    no true e lt = absurd (omega (arith, leb-true (suc u) z e, lt))
    no false e lt = refl

place_by : (j z : ℕ) (zs : List ℕ) (b : Bool) → (z == j) ≡ b → list_all (λ y. nat_lt z y) zs ≡ true →
    (b || has zs j) ≡ true →
    (has zs j ≡ true → slice_get zs (count_by (λ q. nat_lt q j) zs) ≡ Some j) →
    slice_get (z ∷ zs) (count_by (λ q. nat_lt q j) (z ∷ zs)) ≡ Some j
unfolding one_if
place_by j z zs true e above there more =
    let same : z ≡ j = eqb-true z j e in
    let self : one_if (nat_lt z z) ≡ 0 = no (nat_lt z z) refl in
    let none : count_by (λ q. nat_lt q z) (z ∷ zs) ≡ 0 =
    omega (arith, self, count-cons (λ q. nat_lt q z) z zs, none_below z zs above) in
    subst (λ i. slice_get (z ∷ zs) (count_by (λ q. nat_lt q i) (z ∷ zs)) ≡ Some i) same (ap (slice_get (z ∷ zs)) none)
  where
    no : (b : Bool) → nat_lt z z ≡ b → one_if b ≡ 0
    no true e = absurd (omega (arith, leb-true (suc z) z e))
    no false e = refl
place_by j z zs false e above there more =
    let lt : nat_lt z j ≡ true = member_passes (λ y. nat_lt z y) zs j above there in
    let one : count_by (λ q. nat_lt q j) (z ∷ zs) ≡ suc (count_by (λ q. nat_lt q j) zs) =
    omega (arith, ap one_if lt, count-cons (λ q. nat_lt q j) z zs) in
    ap (slice_get (z ∷ zs)) one ∙ more there

pub label_at : (zs : List ℕ) (j : ℕ) → ascends zs ≡ true → has zs j ≡ true →
    slice_get zs (count_by (λ q. nat_lt q j) zs) ≡ Some j
label_at [] j asc there = absurd cc
label_at (z ∷ zs) j asc there =
    let parts = both (list_all (λ y. nat_lt z y) zs) (ascends zs) asc in
    place_by j z zs (z == j) refl parts.0 there (label_at zs j parts.1)

-- ---- the place of a path

abbrev pub nexts : ChannelSet → PathValue → List PathValue
nexts active y = map (λ j. j ∷ y) (without active y)

pub even_at : ChannelSet → ℕ → Bool
even_at active k = list_all (λ y. length (nexts active y) == length active - k) (paths active k)

all_even : ChannelSet → Bool
all_even active = (even_at active 0 && even_at active 1) && even_at active 2

each_even : list_all all_even (sublists every_channel) ≡ true
unfolding all_even even_at
each_even = refl

evens : (active : ChannelSet) → is_set active ≡ true → all_even active ≡ true
evens active h = every_set all_even each_even active h

-- as many paths go on from each path of a length
pub even : (active : ChannelSet) (k : ℕ) → is_set active ≡ true → k ≤ 2 →
    list_all (λ y. length (nexts active y) == length active - k) (paths active k) ≡ true
unfolding all_even even_at
even active zero set small =
    (both (even_at active 0) (even_at active 1)
    (both (even_at active 0 && even_at active 1) (even_at active 2) (evens active set)).0).0
even active (suc zero) set small =
    (both (even_at active 0) (even_at active 1)
    (both (even_at active 0 && even_at active 1) (even_at active 2) (evens active set)).0).1
even active (suc (suc zero)) set small =
    (both (even_at active 0 && even_at active 1) (even_at active 2) (evens active set)).1
even active (suc (suc (suc k))) set small = absurd (omega (arith, small))

not_true : (b : Bool) → not b ≡ true → b ≡ false
not_true true h = absurd cc
not_true false h = refl

-- a path of members stands at its rank
pub path_at : (active : ChannelSet) (y : PathValue) → is_set active ≡ true → is_path active y ≡ true → length y ≤ 3 →
    slice_get (paths active (length y)) (rank active y) ≡ Some y
unfolding rank is_distinct is_set
path_at active [] set path short = refl
path_at active (j ∷ y) set path short =
    let parts = both (not (has y j) && is_distinct y) (has active j && list_all (has active) y) path in
    let fresh = both (not (has y j)) (is_distinct y) parts.0 in
    let member = both (has active j) (list_all (has active) y) parts.1 in
    let asc = (both (list_all is_channel active) (ascends active) set).1 in
    let label : slice_get (without active y) (below active y j) ≡ Some j =
    label_at (without active y) j (ascends-filter (λ q. not (has y q)) active asc)
    (has-without active y j member.0 (not_true (has y j) fresh.0)) in
    let there : slice_get (nexts active y) (below active y j) ≡ Some (j ∷ y) =
    slice_get-map (λ i. i ∷ y) (without active y) (below active y j) ∙ ap (option_map (λ i. i ∷ y)) label in
    in_piece (nexts active) (length active - length y) (paths active (length y)) (rank active y) (below active y j)
    (rank active (j ∷ y)) y (j ∷ y)
    (even active (length y) set (omega (arith, short)))
    (path_at active y set (and_true (is_distinct y) (list_all (has active) y) fresh.1 member.1) (omega (arith, short)))
    there refl
