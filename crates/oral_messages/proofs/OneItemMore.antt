-- What one more item at the front of those of a member in a round changes: the value of its path, and of what the
-- holder itself says for that path.
use Rattle.std.proofs.Common.{◌≡◌, ℕ, zero, suc, ◌+◌, ◌≤◌, ◌==◌, Bool, true, false, cond, not, ◌&&◌, ◌||◌, List, [], ◌∷◌, length, Option, Some, refl, sym, ap, subst, ◌∙◌, arith, eq-eqb}
use Rattle.std.specs.Prelude.{map, reverse, slice_get, slice_set, option_map, option_and_then, bytes_eq, find}
use Rattle.std.specs.List.{list_all, range_with_len}
use Rattle.std.proofs.lemmas.List.{reverse-append, length-reverse}
use Rattle.std.proofs.lemmas.Bool.{eqb-true}
use Rattle.std.proofs.lemmas.Option.{slice_get-map}
use Rattle.std.proofs.lemmas.Slice.Eq.{bytes_eq-Decides}
use Rattle.guards_model.specs.Channels.{Channel, ChannelSet, every_channel, has}
use Rattle.guards_model.specs.Frames.{SourceValue, ItemValue, is_set, is_distinct}
use Rattle.guards_model.specs.OralMessages.{PathValue, held_value, word_for, of_width, paths}
use Rattle.oral_messages.specs.Ranks.{is_path, rank}
use Rattle.guards_model.proofs.BoolTests.{both, and_true}
use Rattle.guards_model.proofs.Numbers.{sublists, every_set}
use Rattle.oral_messages.specs.Trees.{ReceivedItems, with_items_of}
use Rattle.oral_messages.proofs.RankLaws.{path_at, all_get}
use Rattle.oral_messages.proofs.RankTables.{ranks_count}

-- ---- lists of the values of paths

pub same_all : {A : Type 0} (f g : PathValue → A) (ys : List PathValue) →
    ((q : ℕ) (y : PathValue) → slice_get ys q ≡ Some y → g y ≡ f y) → map g ys ≡ map f ys
same_all f g [] h = refl
same_all f g (y ∷ ys) h =
    ap (λ x. x ∷ map g ys) (h 0 y refl) ∙ ap (λ xs. f y ∷ xs) (same_all f g ys (λ q x e. h (suc q) x e))

pub set_one : {A : Type 0} (f g : PathValue → A) (ys : List PathValue) (p : ℕ) (z : PathValue) (v : A) →
    slice_get ys p ≡ Some z → g z ≡ v →
    ((q : ℕ) (y : PathValue) → slice_get ys q ≡ Some y → (q ≡ p → ⊥) → g y ≡ f y) → map g ys ≡ slice_set (map f ys) p v
set_one f g [] p z v e h other = absurd cc
set_one f g (y ∷ ys) zero z v e h other =
    let same : y ≡ z = cc in
    ap (λ x. x ∷ map g ys) (ap g same ∙ h)
    ∙ ap (λ xs. v ∷ xs) (same_all f g ys (λ q x there. other (suc q) x there (λ k. omega (arith, k))))
set_one f g (y ∷ ys) (suc p) z v e h other =
    ap (λ x. x ∷ map g ys) (other 0 y refl (λ k. omega (arith, k)))
    ∙ ap (λ xs. f y ∷ xs) (set_one f g ys p z v e h
    (λ q x there ne. other (suc q) x there (λ k. ne (omega (arith, k)))))

-- ---- the paths in the list

fits : ChannelSet → ℕ → PathValue → Bool
fits active k y = is_path active y && (length y == k)

all_fit : ChannelSet → Bool
all_fit active = (list_all (fits active 1) (paths active 1) && list_all (fits active 2) (paths active 2))
    && list_all (fits active 3) (paths active 3)

each_fits : list_all all_fit (sublists every_channel) ≡ true
unfolding all_fit fits is_distinct
each_fits = refl

fit_at : (active : ChannelSet) (k : ℕ) → is_set active ≡ true → k ≤ 2 →
    list_all (fits active (suc k)) (paths active (suc k)) ≡ true
unfolding all_fit
fit_at active k set small =
    let h = every_set all_fit each_fits active set in
    let front = both (list_all (fits active 1) (paths active 1) && list_all (fits active 2) (paths active 2))
    (list_all (fits active 3) (paths active 3)) h in
    let two = both (list_all (fits active 1) (paths active 1)) (list_all (fits active 2) (paths active 2)) front.0 in
    choose k small two.0 two.1 front.1
  where
    choose : (k : ℕ) → k ≤ 2 → list_all (fits active 1) (paths active 1) ≡ true →
        list_all (fits active 2) (paths active 2) ≡ true → list_all (fits active 3) (paths active 3) ≡ true →
        list_all (fits active (suc k)) (paths active (suc k)) ≡ true
    choose zero small a b c = a
    choose (suc zero) small a b c = b
    choose (suc (suc zero)) small a b c = c
    choose (suc (suc (suc k))) small a b c = absurd (omega (arith, small))

pub listed_path : (active : ChannelSet) (k q : ℕ) (y : PathValue) → is_set active ≡ true → k ≤ 2 →
    slice_get (paths active (suc k)) q ≡ Some y → (is_path active y ≡ true) × (length y ≡ suc k)
unfolding fits
listed_path active k q y set small there =
    let h = both (is_path active y) (length y == suc k)
    (all_get (fits active (suc k)) (paths active (suc k)) q y (fit_at active k set small) there) in
    (h.0, eqb-true (length y) (suc k) h.1)

range_get : (a n q r : ℕ) → slice_get (range_with_len a n) q ≡ Some r → r ≡ a + q
range_get a zero q r h = absurd cc
range_get a (suc n) zero r h = let e : a ≡ r = cc in omega (arith, e)
range_get a (suc n) (suc q) r h = let e : r ≡ (a + 1) + q = range_get (a + 1) n q r h in omega (arith, e)

-- the rank of the path at a place is the place
pub rank_at : (active : ChannelSet) (k q : ℕ) (y : PathValue) → is_set active ≡ true → k ≤ 2 →
    slice_get (paths active (suc k)) q ≡ Some y → rank active y ≡ q
rank_at active k q y set small there =
    let ranked : slice_get (map (rank active) (paths active (suc k))) q ≡ Some (rank active y) =
    slice_get-map (rank active) (paths active (suc k)) q ∙ ap (option_map (rank active)) there in
    let e : rank active y ≡ 0 + q =
    range_get 0 (length (paths active (suc k))) q (rank active y)
    (ap (λ xs. slice_get xs q) (sym (ranks_count active k set small)) ∙ ranked) in
    omega (arith, e)

reverse_twice : (xs : List ℕ) → reverse (reverse xs) ≡ xs
reverse_twice [] = refl
reverse_twice (x ∷ xs) = ap reverse (reverse-append (x ∷ []) xs) ∙ reverse-append (reverse xs) (x ∷ [])
    ∙ ap (λ ys. x ∷ ys) (reverse_twice xs)

not_true : (b : Bool) → not b ≡ true → b ≡ false
not_true true h = absurd cc
not_true false h = refl

first_no : (a b : Bool) → (a || b) ≡ false → a ≡ false
first_no true b h = absurd cc
first_no false b h = refl

-- ---- the values

module _ (width : ℕ) (active : ChannelSet) (me : Channel) (own : SourceValue) (received : ReceivedItems) (round : ℕ)
    (from : Channel) (item : ItemValue) (rest : List ItemValue)
    (others : (from == me) ≡ false) (long : length item.path + 1 ≡ round) where
  abbrev before : PathValue → Option SourceValue
  before y = held_value active width me own (with_items_of received round from rest) y

  abbrev after : PathValue → Option SourceValue
  after y = held_value active width me own (with_items_of received round from (item ∷ rest)) y

  abbrev kept : Option SourceValue
  kept = option_and_then (of_width width) item.word

  abbrev z : PathValue
  z = from ∷ reverse item.path

  first_found : (b : Bool) → bytes_eq item.path (reverse (reverse item.path)) ≡ b → b ≡ true →
      option_and_then (of_width width)
      (option_and_then (λ i. i.word)
      (cond b (Some item) (find (λ i. bytes_eq i.path (reverse (reverse item.path))) rest))) ≡ kept
  first_found true e h = refl
  first_found false e h = absurd cc

  later_found : (x : PathValue) (b : Bool) → bytes_eq item.path (reverse x) ≡ b → (b ≡ true → ⊥) →
      option_and_then (of_width width)
      (option_and_then (λ i. i.word) (cond b (Some item) (find (λ i. bytes_eq i.path (reverse x)) rest)))
      ≡ word_for width (reverse x) rest
  later_found x true e ne = absurd (ne refl)
  later_found x false e ne = refl

  by_place : (j : Channel) (x : PathValue) (b : Bool) → (length (j ∷ x) == round && j == from) ≡ b → (j ∷ x ≡ z → ⊥) →
      word_for width (reverse x) (cond b (item ∷ rest) (received (length (j ∷ x)) j))
      ≡ word_for width (reverse x) (cond b rest (received (length (j ∷ x)) j))
  by_place j x false e ne = refl
  by_place j x true e ne =
      let parts = both (length (j ∷ x) == round) (j == from) e in
      later_found x (bytes_eq item.path (reverse x)) refl
      (λ h. ne (ap (λ k. k ∷ x) (eqb-true j from parts.1)
      ∙ ap (λ y. from ∷ y) (sym (reverse_twice x)
      ∙ ap reverse (sym ((bytes_eq-Decides item.path (reverse x)).0 h)))))

  -- every other path that another member ends
  pub another : (j : Channel) (x : PathValue) (b : Bool) → (j == me) ≡ b → b ≡ false → (j ∷ x ≡ z → ⊥) →
      cond b (after x) (word_for width (reverse x) (with_items_of received round from (item ∷ rest) (length (j ∷ x)) j))
      ≡
      cond b (before x) (word_for width (reverse x) (with_items_of received round from rest (length (j ∷ x)) j))
  another j x true e h ne = absurd cc
  another j x false e h ne = by_place j x (length (j ∷ x) == round && j == from) refl ne

  long_z : length z ≡ round
  long_z = let h : length (reverse item.path) ≡ length item.path = length-reverse item.path in omega (arith, h, long)

  here : (length z == round && from == from) ≡ true
  here = and_true (length z == round) (from == from) (eq-eqb (length z) round long_z) (eq-eqb from from refl)

  pub after-z : after z ≡ kept
  after-z =
      ap (λ b. cond b (after (reverse item.path))
      (word_for width (reverse (reverse item.path))
      (with_items_of received round from (item ∷ rest) (length z) from))) others
      ∙ ap (λ b. word_for width (reverse (reverse item.path)) (cond b (item ∷ rest) (received (length z) from))) here
      ∙ first_found (bytes_eq item.path (reverse (reverse item.path))) refl
      ((bytes_eq-Decides item.path (reverse (reverse item.path))).1 (sym (reverse_twice item.path)))

  pub after-own : after (me ∷ z) ≡ kept
  after-own = ap (λ b. cond b (after z)
      (word_for width (reverse z) (with_items_of received round from (item ∷ rest) (length (me ∷ z)) me)))
      (eq-eqb me me refl) ∙ after-z

  by_end : (j : Channel) (x : PathValue) (b : Bool) → (j == me) ≡ b → is_path active (j ∷ x) ≡ true → (j ∷ x ≡ z → ⊥) →
      (b ≡ true → x ≡ z → ⊥) →
      cond b (after x) (word_for width (reverse x) (with_items_of received round from (item ∷ rest) (length (j ∷ x)) j))
      ≡
      cond b (before x) (word_for width (reverse x) (with_items_of received round from rest (length (j ∷ x)) j))
  unfolding is_distinct
  by_end j x false e path ne further = another j x false e refl ne
  by_end j [] true e path ne further = refl
  by_end j (i ∷ x) true e path ne further = another i x (i == me) refl (apart i (has x j) e fresh) (further refl)
    where
      fresh : ((i == j) || has x j) ≡ false
      fresh = not_true ((i == j) || has x j)
          (both (not ((i == j) || has x j)) (is_distinct (i ∷ x))
          (both (is_distinct (j ∷ i ∷ x)) (list_all (has active) (j ∷ i ∷ x)) path).0).0

      apart : (i : Channel) (b : Bool) → (j == me) ≡ true → ((i == j) || b) ≡ false → (i == me) ≡ false
      apart i b e h = ap (λ k. i == k) (sym (eqb-true j me e)) ∙ first_no (i == j) b h

  pub unchanged : (y : PathValue) → is_path active y ≡ true → (y ≡ z → ⊥) → (y ≡ me ∷ z → ⊥) → after y ≡ before y
  unchanged [] path ne further = refl
  unchanged (j ∷ x) path ne further =
      by_end j x (j == me) refl path ne (λ e h. further (ap (λ k. k ∷ x) (eqb-true j me e) ∙ ap (λ ys. me ∷ ys) h))

  -- the level of the path
  pub level_at : (k : ℕ) (w : PathValue) → is_set active ≡ true → k ≤ 2 → is_path active w ≡ true → length w ≡ suc k →
      w ≡ z →
      map after (paths active (suc k)) ≡ slice_set (map before (paths active (suc k))) (rank active w) kept
  level_at k w set small path count is =
      let there : slice_get (paths active (suc k)) (rank active w) ≡ Some w =
      subst (λ n. slice_get (paths active n) (rank active w) ≡ Some w) count
      (path_at active w set path (omega (arith, count, small))) in
      set_one before after (paths active (suc k)) (rank active w) w kept there (ap after is ∙ after-z)
      (λ q y at ne.
      let fit = listed_path active k q y set small at in
      unchanged y fit.0
      (λ e. ne (sym (rank_at active k q y set small at) ∙ ap (rank active) (e ∙ sym is)))
      (λ e. let own_long : length y ≡ suc (length z) = ap length e in let z_long : length w ≡ length z = ap length is in
      omega (arith, fit.1, own_long, z_long, count)))

  -- the level of what the holder says for the path
  pub level_own : (k : ℕ) (w : PathValue) → is_set active ≡ true → k ≤ 2 → is_path active w ≡ true → length w ≡ suc k →
      w ≡ me ∷ z →
      map after (paths active (suc k)) ≡ slice_set (map before (paths active (suc k))) (rank active w) kept
  level_own k w set small path count is =
      let there : slice_get (paths active (suc k)) (rank active w) ≡ Some w =
      subst (λ n. slice_get (paths active n) (rank active w) ≡ Some w) count
      (path_at active w set path (omega (arith, count, small))) in
      set_one before after (paths active (suc k)) (rank active w) w kept there (ap after is ∙ after-own)
      (λ q y at ne.
      let fit = listed_path active k q y set small at in
      unchanged y fit.0
      (λ e. let y_long : length y ≡ length z = ap length e in let w_long : length w ≡ suc (length z) = ap length is in
      omega (arith, fit.1, y_long, w_long, count))
      (λ e. ne (sym (rank_at active k q y set small at) ∙ ap (rank active) (e ∙ sym is))))

  -- a level with neither
  pub level_same : (k : ℕ) → is_set active ≡ true → k ≤ 2 →
      ((y : PathValue) → is_path active y ≡ true → length y ≡ suc k → y ≡ z → ⊥) →
      ((y : PathValue) → is_path active y ≡ true → length y ≡ suc k → y ≡ me ∷ z → ⊥) →
      map after (paths active (suc k)) ≡ map before (paths active (suc k))
  level_same k set small not_z not_own =
      same_all before after (paths active (suc k))
      (λ q y at. let fit = listed_path active k q y set small at in
      unchanged y fit.0 (not_z y fit.0 fit.1) (not_own y fit.0 fit.1))
