-- What the tables of a set say of the places of paths.
use Rattle.std.proofs.Common.{◌≡◌, ℕ, zero, suc, ◌+◌, ◌-◌, ◌*◌, ◌/◌, ◌%◌, ◌<◌, ◌≤◌, Bool, true, false, cond, not, ◌&&◌, List, [], ◌∷◌, length, get_or, refl, sym, ap, subst, ◌∙◌, arith}
use Rattle.std.specs.Prelude.{nat_lt}
use mir.Val.{bool_byte}
use Rattle.std.specs.List.{list_all}
use Rattle.std.proofs.lemmas.Bool.{leb-true}
use Rattle.std.proofs.lemmas.Option.{slice_get_within}
use Rattle.guards_model.specs.Channels.{Channel, ChannelSet, has}
use Rattle.guards_model.specs.Frames.{is_set, is_channel, ascends, is_distinct}
use Rattle.guards_model.specs.OralMessages.{PathValue, paths}
use Rattle.oral_messages.specs.Ranks.{is_path, rank}
use Rattle.guards_model.proofs.BoolTests.{both, and_true}
use Rattle.guards_model.proofs.AscendingLists.{member_passes}
use Rattle.oral_messages.specs.Sets.{members, AreTables}
use Rattle.oral_messages.proofs.RankLaws.{path_at}
use Rattle.oral_messages.proofs.Listing.{members_are_set}
use Rattle.std.proofs.lemmas.List.{get_or-take}
use Rattle.oral_messages.proofs.PathsBack.{skipped, TwoBack, one_back_is, two_back_is}
use Rattle.oral_messages.proofs.Formulas.{low, one_less, first_place, second_place, third_place, AreSized, sizes}

-- a label of a path is a channel, and so is each one before it
pub label_small : (active : ChannelSet) (a : Channel) (y : PathValue) → is_set active ≡ true →
    is_path active (a ∷ y) ≡ true → a < 7
unfolding is_set
label_small active a y set path =
    let parts = both (is_distinct (a ∷ y)) (has active a && list_all (has active) y) path in
    let there = both (has active a) (list_all (has active) y) parts.1 in
    leb-true (suc a) 7 (member_passes is_channel active a (both (list_all is_channel active) (ascends active) set).0
    there.0)

pub shorter : (active : ChannelSet) (a : Channel) (y : PathValue) → is_path active (a ∷ y) ≡ true →
    is_path active y ≡ true
unfolding is_distinct
shorter active a y path =
    let parts = both (not (has y a) && is_distinct y) (has active a && list_all (has active) y) path in
    and_true (is_distinct y) (list_all (has active) y) (both (not (has y a)) (is_distinct y) parts.0).1
    (both (has active a) (list_all (has active) y) parts.1).1

pub rank_within : (active : ChannelSet) (y : PathValue) (k : ℕ) → is_set active ≡ true → is_path active y ≡ true →
    length y ≡ k → k ≤ 3 → rank active y < length (paths active k)
rank_within active y k set path long small =
    subst (λ n. rank active y < length (paths active n)) long
    (slice_get_within (paths active (length y)) (rank active y) y
    (path_at active y set path (omega (arith, long, small))))

pub byte_is : (b : Bool) → cond b 1 0 ≡ bool_byte b
byte_is true = refl
byte_is false = refl

pub record FirstPlace (active : ChannelSet) (below : List ℕ) (a : Channel) : Type 0 where
  pub small : a < 7
  pub is : rank active (a ∷ []) ≡ get_or below a 0

pub record SecondPlace (active : ChannelSet) (count : ℕ) (below : List ℕ) (a b : Channel) : Type 0 where
  pub small_a : a < 7
  pub small_b : b < 7
  pub some : 1 ≤ count
  pub enough : bool_byte (nat_lt a b) ≤ get_or below b 0
  pub is : rank active (b ∷ a ∷ []) ≡ get_or below a 0 * (count - 1) + (get_or below b 0 - bool_byte (nat_lt a b))

pub record ThirdPlace (active : ChannelSet) (count : ℕ) (below : List ℕ) (a b c : Channel) : Type 0 where
  pub small_c : c < 7
  pub some : 2 ≤ count
  pub front : is_path active (b ∷ a ∷ []) ≡ true
  pub front_small : (rank active (b ∷ a ∷ []) * (count - 2)) ≤ 240
  pub whole : rank active (c ∷ b ∷ a ∷ []) < 343
  pub enough : bool_byte (nat_lt a c) + bool_byte (nat_lt b c) ≤ get_or below c 0
  pub is : rank active (c ∷ b ∷ a ∷ [])
      ≡ rank active (b ∷ a ∷ []) * (count - 2) + ((get_or below c 0 - bool_byte (nat_lt a c)) - bool_byte (nat_lt b c))

some_left : (n r : ℕ) → n ≤ 7 → r < n * (n - 1) → 2 ≤ n
some_left zero r le lt = absurd (omega (arith, lt))
some_left (suc zero) r le lt = absurd (omega (arith, lt))
some_left (suc (suc n)) r le lt = omega arith

below_49 : (n r : ℕ) → n ≤ 7 → r < n * (n - 1) → r < 49
below_49 zero r le lt = absurd (omega (arith, lt))
below_49 (suc zero) r le lt = omega (arith, lt)
below_49 (suc (suc zero)) r le lt = omega (arith, lt)
below_49 (suc (suc (suc zero))) r le lt = omega (arith, lt)
below_49 (suc (suc (suc (suc zero)))) r le lt = omega (arith, lt)
below_49 (suc (suc (suc (suc (suc zero))))) r le lt = omega (arith, lt)
below_49 (suc (suc (suc (suc (suc (suc zero)))))) r le lt = omega (arith, lt)
below_49 (suc (suc (suc (suc (suc (suc (suc zero))))))) r le lt = omega (arith, lt)
below_49 (suc (suc (suc (suc (suc (suc (suc (suc n)))))))) r le lt = absurd (omega (arith, le))

product : (r w : ℕ) → r < 49 → w ≤ 5 → r * w ≤ 240
product r zero lt le = omega (arith, lt)
product r (suc zero) lt le = omega (arith, lt)
product r (suc (suc zero)) lt le = omega (arith, lt)
product r (suc (suc (suc zero))) lt le = omega (arith, lt)
product r (suc (suc (suc (suc zero)))) lt le = omega (arith, lt)
product r (suc (suc (suc (suc (suc zero))))) lt le = omega (arith, lt)
product r (suc (suc (suc (suc (suc (suc w)))))) lt le = absurd (omega (arith, le))

below_343 : (n r : ℕ) → n ≤ 7 → r < n * (n - 1) * (n - 2) → r < 343
below_343 zero r le lt = absurd (omega (arith, lt))
below_343 (suc zero) r le lt = omega (arith, lt)
below_343 (suc (suc zero)) r le lt = omega (arith, lt)
below_343 (suc (suc (suc zero))) r le lt = omega (arith, lt)
below_343 (suc (suc (suc (suc zero)))) r le lt = omega (arith, lt)
below_343 (suc (suc (suc (suc (suc zero))))) r le lt = omega (arith, lt)
below_343 (suc (suc (suc (suc (suc (suc zero)))))) r le lt = omega (arith, lt)
below_343 (suc (suc (suc (suc (suc (suc (suc zero))))))) r le lt = omega (arith, lt)
below_343 (suc (suc (suc (suc (suc (suc (suc (suc n)))))))) r le lt = absurd (omega (arith, le))

module _ (set : List Bool) (count : ℕ) (labels below : List ℕ) (active : ChannelSet)
    (tables : AreTables set count labels below) (view : members set ≡ active) where
  pub is_set_of : is_set active ≡ true
  unfolding members
  is_set_of = subst (λ s. is_set s ≡ true) view (members_are_set set tables.seven)

  low_is : (q : Channel) → q < 7 → low active q ≡ get_or below q 0
  low_is q small = ap (λ s. low s q) (sym view) ∙ sym (tables.ranked q small)

  count_is : length active ≡ count
  count_is = ap length (sym view) ∙ sym tables.counted

  pub first_facts : (a : Channel) → is_path active (a ∷ []) ≡ true → FirstPlace active below a
  first_facts a path =
      let small : a < 7 = label_small active a [] is_set_of path in
      record { small = small; is = first_place active a is_set_of path ∙ low_is a small }

  pub second_within : (a b : Channel) → is_path active (b ∷ a ∷ []) ≡ true →
      rank active (b ∷ a ∷ []) < count * (count - 1)
  second_within a b path =
      let sized : AreSized active = sizes active is_set_of in
      subst (λ n. rank active (b ∷ a ∷ []) < n * (n - 1)) count_is
      (subst (λ n. rank active (b ∷ a ∷ []) < n) sized.second
      (rank_within active (b ∷ a ∷ []) 2 is_set_of path refl (omega arith)))

  pub third_within : (a b c : Channel) → is_path active (c ∷ b ∷ a ∷ []) ≡ true →
      rank active (c ∷ b ∷ a ∷ []) < count * (count - 1) * (count - 2)
  third_within a b c path =
      let sized : AreSized active = sizes active is_set_of in
      subst (λ n. rank active (c ∷ b ∷ a ∷ []) < n * (n - 1) * (n - 2)) count_is
      (subst (λ n. rank active (c ∷ b ∷ a ∷ []) < n) sized.third
      (rank_within active (c ∷ b ∷ a ∷ []) 3 is_set_of path refl (omega arith)))

  few : count ≤ 7
  few = let sized : AreSized active = sizes active is_set_of in subst (λ n. n ≤ 7) count_is sized.seven

  pub second_facts : (a b : Channel) → is_path active (b ∷ a ∷ []) ≡ true → SecondPlace active count below a b
  second_facts a b path =
      let small_b : b < 7 = label_small active b (a ∷ []) is_set_of path in
      let small_a : a < 7 = label_small active a [] is_set_of (shorter active b (a ∷ []) path) in
      let two : 2 ≤ count = some_left count (rank active (b ∷ a ∷ [])) few (second_within a b path) in
      let h = second_place active b a is_set_of path in
      record {
        small_a = small_a;
        small_b = small_b;
        some = omega (arith, two);
        enough = subst (λ n. n ≤ get_or below b 0) (byte_is (nat_lt a b))
            (subst (λ n. one_less a b ≤ n) (low_is b small_b) h.1);
        is = h.0 ∙ ap (λ n. n * (length active - 1) + (low active b - one_less a b)) (low_is a small_a)
            ∙ ap (λ n. get_or below a 0 * (length active - 1) + (n - one_less a b)) (low_is b small_b)
            ∙ ap (λ n. get_or below a 0 * (n - 1) + (get_or below b 0 - one_less a b)) count_is
            ∙ ap (λ n. get_or below a 0 * (count - 1) + (get_or below b 0 - n)) (byte_is (nat_lt a b));
      }

  pub third_facts : (a b c : Channel) → is_path active (c ∷ b ∷ a ∷ []) ≡ true → ThirdPlace active count below a b c
  third_facts a b c path =
      let small_c : c < 7 = label_small active c (b ∷ a ∷ []) is_set_of path in
      let front : is_path active (b ∷ a ∷ []) ≡ true = shorter active c (b ∷ a ∷ []) path in
      let h = third_place active c b a is_set_of path in
      let within : rank active (b ∷ a ∷ []) < count * (count - 1) = second_within a b front in
      record {
        small_c = small_c;
        some = some_left count (rank active (b ∷ a ∷ [])) few within;
        front = front;
        front_small = product (rank active (b ∷ a ∷ [])) (count - 2)
            (below_49 count (rank active (b ∷ a ∷ [])) few within) (omega (arith, few));
        whole = below_343 count (rank active (c ∷ b ∷ a ∷ [])) few (third_within a b c path);
        enough = subst (λ n. n + bool_byte (nat_lt b c) ≤ get_or below c 0) (byte_is (nat_lt a c))
            (subst (λ n. one_less a c + n ≤ get_or below c 0) (byte_is (nat_lt b c))
            (subst (λ n. one_less a c + one_less b c ≤ n) (low_is c small_c) h.1));
        is = h.0 ∙ ap (λ n. rank active (b ∷ a ∷ []) * (length active - 2) + ((n - one_less a c) - one_less b c))
            (low_is c small_c)
            ∙ ap (λ n. rank active (b ∷ a ∷ []) * (n - 2) + ((get_or below c 0 - one_less a c) - one_less b c)) count_is
            ∙ ap (λ n. rank active (b ∷ a ∷ []) * (count - 2) + ((get_or below c 0 - n) - one_less b c))
            (byte_is (nat_lt a c))
            ∙ ap (λ n. rank active (b ∷ a ∷ []) * (count - 2) + ((get_or below c 0 - bool_byte (nat_lt a c)) - n))
            (byte_is (nat_lt b c));
      }

  -- ---- from a place back to its path

  pub label_is : (k : ℕ) → k < length active → get_or active k 0 ≡ get_or labels k 0
  label_is k lt =
      ap (λ xs. get_or xs k 0) (sym view ∙ sym tables.listed)
      ∙ get_or-take count labels k 0 (omega (arith, lt, count_is))

  pub one_back : (k : ℕ) → k < length active → get_or (paths active 1) k [] ≡ get_or labels k 0 ∷ []
  one_back k lt = one_back_is active k is_set_of lt ∙ ap (λ j. j ∷ []) (label_is k lt)

  pub two_back_at : (k : ℕ) → k < length active * (length active - 1) →
      get_or (paths active 2) k []
      ≡ get_or labels (skipped (k / (count - 1)) (k % (count - 1))) 0 ∷ get_or labels (k / (count - 1)) 0 ∷ []
  two_back_at k lt =
      let h : TwoBack active k = two_back_is active k is_set_of lt in
      h.is
      ∙ ap (λ j. j ∷ get_or active (k / (length active - 1)) 0 ∷ [])
      (label_is (skipped (k / (length active - 1)) (k % (length active - 1))) h.next)
      ∙ ap (λ j. get_or labels (skipped (k / (length active - 1)) (k % (length active - 1))) 0 ∷ j ∷ [])
      (label_is (k / (length active - 1)) h.front)
      ∙ ap (λ n. get_or labels (skipped (k / (n - 1)) (k % (n - 1))) 0 ∷ get_or labels (k / (n - 1)) 0 ∷ []) count_is

  pub front_within : (k : ℕ) → k < length active * (length active - 1) → k / (count - 1) < count
  front_within k lt =
      let h : TwoBack active k = two_back_is active k is_set_of lt in
      subst (λ n. k / (n - 1) < n) count_is h.front

  pub next_within : (k : ℕ) → k < length active * (length active - 1) →
      skipped (k / (count - 1)) (k % (count - 1)) < count
  next_within k lt =
      let h : TwoBack active k = two_back_is active k is_set_of lt in
      subst (λ n. skipped (k / (n - 1)) (k % (n - 1)) < n) count_is h.next

  pub some_of_two : (k : ℕ) → k < length active * (length active - 1) → 2 ≤ count
  some_of_two k lt = some_left count k few (subst (λ n. k < n * (n - 1)) count_is lt)
