-- The items of an exchange: in range for each active set, sender and round, and each found by its path.
use Rattle.std.proofs.Common.{◌≡◌, ℕ, suc, ◌+◌, ◌-◌, ◌==◌, Bool, true, false, cond, not, ◌&&◌, ◌||◌, List, [], ◌∷◌, length, map, Option, Some, None, refl, sym, ap, subst, ◌∙◌, arith}
use Rattle.std.specs.Prelude.{nat_le, filter, find, option_and_then, reverse, bytes_eq}
use Rattle.std.specs.List.{list_all, list_any}
use Rattle.std.specs.Ordering.{nat_cmp, is_lt}
use Rattle.std.specs.Cmp.Lexicographic.{slice_cmp}
use Rattle.std.proofs.lemmas.List.{reverse-reverse, length-map}
use Rattle.std.proofs.lemmas.Slice.Eq.{bytes_eq-Decides}
use Rattle.guards_model.specs.Channels.{Channel, ChannelSet, has, without, every_channel}
use Rattle.guards_model.specs.Frames.{SourceValue, ItemValue, between, is_set, is_channel, is_distinct, each_next, item_in_range, items_ascend, exchange_in_range}
use Rattle.guards_model.specs.OralMessages.{PathValue, of_width, word_for, paths}
use Rattle.guards_model.specs.Exchanges.{IsPath}
use Rattle.guards_model.proofs.Counting.{has-without}
use Rattle.guards_model.proofs.BoolTests.{not_true, both, and_true, or_true, or_left}
use Rattle.guards_model.proofs.Majorities.{any_weaken}
use Rattle.guards_model.proofs.Numbers.{sublists, every_set}
use Rattle.guards_model.proofs.AscendingLists.{member_passes, any_member}
use Rattle.guards_model.proofs.ListTests.{any-map, any-flat_map}
use Rattle.guards_model.proofs.FineWords.{word_in_range, is_fine, fine_of_width}

-- the item for a path
abbrev pub item_for : (PathValue → Option SourceValue) → PathValue → ItemValue
item_for f y = record { path = reverse y; word = f y }

-- the paths that a member tells in a round
abbrev pub told_paths : ChannelSet → Channel → ℕ → List PathValue
told_paths active j round = filter (λ y. not (has y j)) (paths active (round - 1))

-- ---- ranges, for each active set by computation

told_in_range : Channel → ℕ → PathValue → Bool
told_in_range j round y =
    length (reverse y) + 1 == round && (list_all is_channel (reverse y) && is_distinct (j ∷ reverse y))

without_words : PathValue → Option SourceValue
without_words y = None

tells_in_range : ChannelSet → ℕ → Channel → Bool
tells_in_range active round j =
    nat_le (length (told_paths active j round)) 30
    && (list_all (told_in_range j round) (told_paths active j round)
    && items_ascend (map (item_for without_words) (told_paths active j round)))

rounds_in_range : ChannelSet → Bool
rounds_in_range active = list_all (λ round. list_all (tells_in_range active round) active) (1 ∷ 2 ∷ 3 ∷ [])

each_in_range : list_all rounds_in_range (sublists every_channel) ≡ true
unfolding rounds_in_range tells_in_range told_in_range without_words each_next is_distinct
each_in_range = refl

in_range_at : (active : ChannelSet) (round : ℕ) (j : Channel) → is_set active ≡ true →
    has (1 ∷ 2 ∷ 3 ∷ []) round ≡ true → has active j ≡ true → tells_in_range active round j ≡ true
unfolding rounds_in_range
in_range_at active round j set low there =
    member_passes (tells_in_range active round) active j
    (member_passes (λ r. list_all (tells_in_range active r) active) (1 ∷ 2 ∷ 3 ∷ []) round
    (every_set rounds_in_range each_in_range active set) low) there

-- ---- ranges, with the words

module _ (f : PathValue → Option SourceValue) where
  ascend_alike : (ys : List PathValue) →
      items_ascend (map (item_for f) ys) ≡ items_ascend (map (item_for without_words) ys)
  unfolding each_next
  ascend_alike [] = refl
  ascend_alike (x ∷ []) = refl
  ascend_alike (x ∷ y ∷ ys) = ap (λ b. is_lt (slice_cmp nat_cmp (reverse x) (reverse y)) && b) (ascend_alike (y ∷ ys))

  item_fits : (j : Channel) (round : ℕ) (y : PathValue) → told_in_range j round y ≡ true → word_in_range (f y) ≡ true →
      item_in_range j round (item_for f y) ≡ true
  unfolding told_in_range
  item_fits j round y h k =
      and_true (told_in_range j round y) (word_in_range (f y)) h k

  items_fit : (j : Channel) (round : ℕ) (ys : List PathValue) → list_all (told_in_range j round) ys ≡ true →
      ((y : PathValue) → word_in_range (f y) ≡ true) → list_all (item_in_range j round) (map (item_for f) ys) ≡ true
  items_fit j round [] h k = refl
  items_fit j round (y ∷ ys) h k =
      let parts = both (told_in_range j round y) (list_all (told_in_range j round) ys) h in
      and_true (item_in_range j round (item_for f y)) (list_all (item_in_range j round) (map (item_for f) ys))
      (item_fits j round y parts.0 (k y)) (items_fit j round ys parts.1 k)

  pub exchange_good : (active : ChannelSet) (j : Channel) (round : ℕ) → is_set active ≡ true →
      between 1 3 round ≡ true → has (1 ∷ 2 ∷ 3 ∷ []) round ≡ true → has active j ≡ true →
      ((y : PathValue) → word_in_range (f y) ≡ true) →
      exchange_in_range j (record { round = round; items = map (item_for f) (told_paths active j round) }) ≡ true
  unfolding tells_in_range
  exchange_good active j round set low of_three there words =
      let ys = told_paths active j round in
      let parts = both (nat_le (length ys) 30)
      (list_all (told_in_range j round) ys && items_ascend (map (item_for without_words) ys))
      (in_range_at active round j set of_three there) in
      let last = both (list_all (told_in_range j round) ys) (items_ascend (map (item_for without_words) ys)) parts.1 in
      and_true (between 1 3 round) _ low
      (and_true (nat_le (length (map (item_for f) ys)) 30 && list_all (item_in_range j round) (map (item_for f) ys))
      (items_ascend (map (item_for f) ys))
      (and_true (nat_le (length (map (item_for f) ys)) 30) (list_all (item_in_range j round) (map (item_for f) ys))
      (subst (λ n. nat_le n 30 ≡ true) (sym (length-map ys (item_for f))) parts.0)
      (items_fit j round ys last.0 words))
      (ascend_alike ys ∙ last.1))

  -- ---- an item is found by its path

  find_by : (x y : PathValue) (ys : List PathValue) (same : Bool) → bytes_eq (reverse x) (reverse y) ≡ same →
      (bytes_eq y x || list_any (bytes_eq y) ys) ≡ true →
      (list_any (bytes_eq y) ys ≡ true →
      find (λ (i : ItemValue). bytes_eq i.path (reverse y)) (map (item_for f) ys) ≡ Some (item_for f y)) →
      cond same (Some (item_for f x)) (find (λ (i : ItemValue). bytes_eq i.path (reverse y)) (map (item_for f) ys))
      ≡ Some (item_for f y)
  find_by x y ys true e there more =
      ap (λ z. Some (item_for f z))
      (sym (reverse-reverse x) ∙ ap reverse ((bytes_eq-Decides (reverse x) (reverse y)).0 e) ∙ reverse-reverse y)
  find_by x y ys false e there more = more (other (bytes_eq y x) (list_any (bytes_eq y) ys) refl there)
    where
      differ : true ≡ false → ⊥
      differ k = cc

      other : (a b : Bool) → bytes_eq y x ≡ a → (a || b) ≡ true → b ≡ true
      other true b h k = absurd
          (differ (sym ((bytes_eq-Decides (reverse x) (reverse y)).1 (ap reverse (sym ((bytes_eq-Decides y x).0 h))))
          ∙ e))
      other false b h k = k

  find_item : (y : PathValue) (ys : List PathValue) → list_any (bytes_eq y) ys ≡ true →
      find (λ (i : ItemValue). bytes_eq i.path (reverse y)) (map (item_for f) ys) ≡ Some (item_for f y)
  find_item y [] there = absurd cc
  find_item y (x ∷ ys) there = find_by x y ys (bytes_eq (reverse x) (reverse y)) refl there (find_item y ys)

  pub word_found : (width : ℕ) (y : PathValue) (ys : List PathValue) → list_any (bytes_eq y) ys ≡ true →
      is_fine width (f y) ≡ true → word_for width (reverse y) (map (item_for f) ys) ≡ f y
  word_found width y ys there fine =
      ap (λ o. option_and_then (of_width width) (option_and_then (λ (i : ItemValue). i.word) o)) (find_item y ys there)
      ∙ fine_of_width width (f y) fine

-- ---- each path of members is told

same_path : (y : PathValue) → bytes_eq y y ≡ true
same_path y = (bytes_eq-Decides y y).1 refl

extended_in : (active : ChannelSet) (j : Channel) (y : PathValue) (z : PathValue) → has active j ≡ true →
    has y j ≡ false → bytes_eq y z ≡ true →
    list_any (bytes_eq (j ∷ y)) (map (λ i. i ∷ z) (without active z)) ≡ true
extended_in active j y z there fresh e =
    subst (λ z. list_any (bytes_eq (j ∷ y)) (map (λ i. i ∷ z) (without active z)) ≡ true) ((bytes_eq-Decides y z).0 e)
    (any-map (bytes_eq (j ∷ y)) (λ i. i ∷ y) (without active y)
    ∙ any_member (λ i. bytes_eq (j ∷ y) (i ∷ y)) (without active y) j (has-without active y j there fresh)
    (same_path (j ∷ y)))

in_paths : (active : ChannelSet) (y : PathValue) → is_distinct y ≡ true → list_all (has active) y ≡ true →
    list_any (bytes_eq y) (paths active (length y)) ≡ true
unfolding is_distinct
in_paths active [] d h = refl
in_paths active (j ∷ y) d h =
    let fresh = both (not (has y j)) (is_distinct y) d in
    let members = both (has active j) (list_all (has active) y) h in
    any-flat_map (bytes_eq (j ∷ y)) (λ z. map (λ i. i ∷ z) (without active z)) (paths active (length y))
    (any_weaken (bytes_eq y) (λ z. list_any (bytes_eq (j ∷ y)) (map (λ i. i ∷ z) (without active z)))
    (paths active (length y))
    (λ z. extended_in active j y z members.0 (not_true (has y j) fresh.0)) (in_paths active y fresh.1 members.1))

kept_by : (t : PathValue → Bool) (x y : PathValue) (ys : List PathValue) (keeps same : Bool) → t x ≡ keeps →
    bytes_eq y x ≡ same → t y ≡ true → (same || list_any (bytes_eq y) ys) ≡ true →
    (list_any (bytes_eq y) ys ≡ true → list_any (bytes_eq y) (filter t ys) ≡ true) →
    list_any (bytes_eq y) (cond keeps (x ∷ filter t ys) (filter t ys)) ≡ true
kept_by t x y ys true true e s h there more = or_left (bytes_eq y x) (list_any (bytes_eq y) (filter t ys)) s
kept_by t x y ys true false e s h there more = or_true (bytes_eq y x) (list_any (bytes_eq y) (filter t ys)) (more there)
kept_by t x y ys false true e s h there more =
    absurd (differ (sym (subst (λ z. t z ≡ true) ((bytes_eq-Decides y x).0 s) h) ∙ e))
  where
    differ : true ≡ false → ⊥
    differ k = cc
kept_by t x y ys false false e s h there more = more there

in_filter : (t : PathValue → Bool) (y : PathValue) (ys : List PathValue) → t y ≡ true →
    list_any (bytes_eq y) ys ≡ true → list_any (bytes_eq y) (filter t ys) ≡ true
in_filter t y [] h there = absurd cc
in_filter t y (x ∷ ys) h there = kept_by t x y ys (t x) (bytes_eq y x) refl refl h there (in_filter t y ys h)

pub is_told : (active : ChannelSet) (j : Channel) (y : PathValue) → IsPath active (j ∷ y) →
    list_any (bytes_eq y) (told_paths active j (suc (length y))) ≡ true
unfolding is_distinct
is_told active j y path =
    let fresh = both (not (has y j)) (is_distinct y) path.distinct in
    let members = both (has active j) (list_all (has active) y) path.members in
    let back : length y ≡ suc (length y) - 1 = omega arith in
    in_filter (λ z. not (has z j)) y (paths active (suc (length y) - 1)) fresh.0
    (subst (λ k. list_any (bytes_eq y) (paths active k) ≡ true) back (in_paths active y fresh.1 members.1))
