-- A tree that keeps one more item holds what is to be held for it.
use Rattle.std.proofs.Common.{◌≡◌, ◌≢◌, ℕ, zero, suc, ◌+◌, ◌≤◌, ◌==◌, Bool, true, false, not, ◌&&◌, ◌||◌, List, [], ◌∷◌, length, ◌<◌, Option, Some, refl, sym, ap, subst, ◌∙◌, arith, eq-eqb}
use Rattle.std.specs.Prelude.{map, reverse, slice_get, slice_set, option_and_then}
use Rattle.std.specs.List.{list_all}
use Rattle.std.proofs.lemmas.Bool.{eqb-true, leb-true}
use Rattle.guards_model.specs.Channels.{Channel, ChannelSet, has}
use Rattle.guards_model.specs.Frames.{SourceValue, ItemValue, is_set, is_channel, is_distinct, item_in_range, path_in_range, absent_or, source_word_in_range}
use Rattle.guards_model.specs.OralMessages.{PathValue, held_value, of_width, paths}
use Rattle.oral_messages.specs.Ranks.{is_path, rank}
use Rattle.guards_model.proofs.BoolTests.{both, and_true, or_true}
use Rattle.guards_model.proofs.AscendingLists.{member_passes}
use Rattle.oral_messages.specs.Trees.{TreeValue, ReceivedItems, with_items_of, Holds, tree_level, IsSameMember, KeepsFirst, KeepsSecond, KeepsThird}
use Rattle.oral_messages.proofs.Levels.{source_path, own_path, apart_one, apart_two}
use Rattle.oral_messages.proofs.OneItemMore.{level_at, level_own, level_same}

same_level : (a b : TreeValue) (received : ReceivedItems) (k : ℕ) → IsSameMember a b →
    tree_level a received k ≡ tree_level b received k
unfolding tree_level
same_level a b received k s =
    ap (λ m. map (held_value m a.width a.me a.own received) (paths m k)) s.members
    ∙ ap (λ w. map (held_value b.members w a.me a.own received) (paths b.members k)) s.width
    ∙ ap (λ p. map (held_value b.members b.width p a.own received) (paths b.members k)) s.me
    ∙ ap (λ o. map (held_value b.members b.width b.me o received) (paths b.members k)) s.own

differ : {A : Type 0} → true ≡ false → A
differ k = absurd cc

unequal : (a b : ℕ) (e : Bool) → (a == b) ≡ e → (a ≡ b → ⊥) → (a == b) ≡ false
unequal a b true h ne = absurd (ne (eqb-true a b h))
unequal a b false h ne = h

-- a path with a label that is no member, or with one label twice, is none
no_member : (members : ChannelSet) (a : Channel) → has members a ≡ false → (y x : PathValue) →
    is_path members y ≡ true → has x a ≡ true → y ≡ x → ⊥
no_member members a none y x path there e = clash (list_all (has members) x) refl
  where
    within : list_all (has members) x ≡ true
    within = (both (is_distinct x) (list_all (has members) x) (subst (λ p. is_path members p ≡ true) e path)).1

    at_one : (xs : List ℕ) → list_all (has members) xs ≡ true → has xs a ≡ true → has members a ≡ true
    at_one xs h k = member_passes (has members) xs a h k

    clash : (b : Bool) → list_all (has members) x ≡ b → ⊥
    clash b h = let found : has members a ≡ true = at_one x within there in cc

not_both : (b : Bool) → b ≡ true → not b ≡ true → ⊥
not_both true e h = cc
not_both false e h = cc

twice : (members : ChannelSet) (me from : Channel) (y : PathValue) → is_path members y ≡ true →
    y ≡ me ∷ from ∷ me ∷ [] → ⊥
unfolding is_distinct
twice members me from y path e =
    not_both (has (from ∷ me ∷ []) me)
    (or_true (from == me) ((me == me) || false) (ap (λ b. b || false) (eq-eqb me me refl)))
    (both (not (has (from ∷ me ∷ []) me)) (is_distinct (from ∷ me ∷ [])) apart).0
  where
    apart : is_distinct (me ∷ from ∷ me ∷ []) ≡ true
    apart = (both (is_distinct (me ∷ from ∷ me ∷ [])) (list_all (has members) (me ∷ from ∷ me ∷ []))
        (subst (λ p. is_path members p ≡ true) e path)).0

module _ (old new : TreeValue) (received : ReceivedItems) (from : Channel) (item : ItemValue) (rest : List ItemValue)
    (set : is_set old.members ≡ true) (mine : has old.members old.me ≡ true) (member : has old.members from ≡ true)
    (another : from ≢ old.me) where
  abbrev kept : Option SourceValue
  kept = option_and_then (of_width old.width) item.word

  others : (from == old.me) ≡ false
  others = unequal from old.me (from == old.me) refl another

  abbrev Earlier : ℕ → ReceivedItems
  Earlier round = with_items_of received round from rest

  abbrev Later : ℕ → ReceivedItems
  Later round = with_items_of received round from (item ∷ rest)

  pub kept_first : item.path ≡ [] → KeepsFirst old new from kept → Holds old (Earlier 1) → Holds new (Later 1)
  unfolding tree_level
  kept_first none k h =
      let long : length item.path + 1 ≡ 1 = ap (λ p. length p + 1) none in
      let z_is : from ∷ [] ≡ from ∷ reverse item.path = ap (λ p. from ∷ reverse p) (sym none) in
      let one_path : is_path old.members (from ∷ []) ≡ true = source_path old.members from member in
      let two_path : is_path old.members (old.me ∷ from ∷ []) ≡ true =
      own_path old.members old.me (from ∷ []) one_path mine (apart_one from old.me another) in
      record {
        first = k.first ∙ ap (λ xs. slice_set xs (rank old.members (from ∷ [])) kept) h.first
            ∙ sym (level_at old.width old.members old.me old.own received 1 from item rest others long 0 (from ∷ []) set
            (omega arith) one_path refl z_is)
            ∙ sym (same_level new old (Later 1) 1 k.same);
        second = λ many.
            let some : 4 ≤ length old.members = subst (λ m. 4 ≤ length m) k.same.members many in
            k.second some ∙ ap (λ xs. slice_set xs (rank old.members (old.me ∷ from ∷ [])) kept) (h.second some)
            ∙ sym (level_own old.width old.members old.me old.own received 1 from item rest others long 1
            (old.me ∷ from ∷ []) set (omega arith) two_path refl (ap (λ y. old.me ∷ y) z_is))
            ∙ sym (same_level new old (Later 1) 2 k.same);
        third = λ many.
            let some : 7 ≤ length old.members = subst (λ m. 7 ≤ length m) k.same.members many in
            k.third ∙ h.third some
            ∙ sym (level_same old.width old.members old.me old.own received 1 from item rest others long 2 set
            (omega arith)
            (λ y path count e. let l : length y ≡ 1 = ap length (e ∙ sym z_is) in omega (arith, count, l))
            (λ y path count e. let l : length y ≡ 2 = ap length (e ∙ ap (λ x. old.me ∷ x) (sym z_is)) in
            omega (arith, count, l)))
            ∙ sym (same_level new old (Later 1) 3 k.same);
      }

  pub kept_second : (a : Channel) → item.path ≡ a ∷ [] → is_path old.members (from ∷ a ∷ []) ≡ true →
      KeepsSecond old new a from kept → 4 ≤ length old.members → Holds old (Earlier 2) → Holds new (Later 2)
  unfolding tree_level
  kept_second a one path k many h =
      let long : length item.path + 1 ≡ 2 = ap (λ p. length p + 1) one in
      let z_is : from ∷ a ∷ [] ≡ from ∷ reverse item.path = ap (λ p. from ∷ reverse p) (sym one) in
      record {
        first = k.first ∙ h.first
            ∙ sym (level_same old.width old.members old.me old.own received 2 from item rest others long 0 set
            (omega arith)
            (λ y path count e. let l : length y ≡ 2 = ap length (e ∙ sym z_is) in omega (arith, count, l))
            (λ y path count e. let l : length y ≡ 3 = ap length (e ∙ ap (λ x. old.me ∷ x) (sym z_is)) in
            omega (arith, count, l)))
            ∙ sym (same_level new old (Later 2) 1 k.same);
        second = λ _.
            k.second ∙ ap (λ xs. slice_set xs (rank old.members (from ∷ a ∷ [])) kept) (h.second many)
            ∙ sym (level_at old.width old.members old.me old.own received 2 from item rest others long 1 (from ∷ a ∷ [])
            set (omega arith) path refl z_is)
            ∙ sym (same_level new old (Later 2) 2 k.same);
        third = λ more.
            let some : 7 ≤ length old.members = subst (λ m. 7 ≤ length m) k.same.members more in
            third_level some (a == old.me) refl ∙ sym (same_level new old (Later 2) 3 k.same);
      }
    where
      third_level : 7 ≤ length old.members → (b : Bool) → (a == old.me) ≡ b → new.third ≡ tree_level old (Later 2) 3
      third_level some true e =
          let long : length item.path + 1 ≡ 2 = ap (λ p. length p + 1) one in
          let z_is : from ∷ a ∷ [] ≡ from ∷ reverse item.path = ap (λ p. from ∷ reverse p) (sym one) in
          let mine_is : a ≡ old.me = eqb-true a old.me e in
          k.own mine_is ∙ h.third some
          ∙ sym (level_same old.width old.members old.me old.own received 2 from item rest others long 2 set
          (omega arith)
          (λ y path count e. let l : length y ≡ 2 = ap length (e ∙ sym z_is) in omega (arith, count, l))
          (λ y path count e. twice old.members old.me from y path
          (e ∙ ap (λ x. old.me ∷ x) (sym z_is) ∙ ap (λ q. old.me ∷ from ∷ q ∷ []) mine_is)))
      third_level some false e =
          let long : length item.path + 1 ≡ 2 = ap (λ p. length p + 1) one in
          let z_is : from ∷ a ∷ [] ≡ from ∷ reverse item.path = ap (λ p. from ∷ reverse p) (sym one) in
          let ne : a ≢ old.me = λ same. differ (sym (eq-eqb a old.me same) ∙ e) in
          k.third some ne ∙ ap (λ xs. slice_set xs (rank old.members (old.me ∷ from ∷ a ∷ [])) kept) (h.third some)
          ∙ sym (level_own old.width old.members old.me old.own received 2 from item rest others long 2
          (old.me ∷ from ∷ a ∷ []) set (omega arith)
          (own_path old.members old.me (from ∷ a ∷ []) path mine (apart_two a from old.me ne another)) refl
          (ap (λ y. old.me ∷ y) z_is))

  pub kept_third : (a b : Channel) → item.path ≡ a ∷ b ∷ [] → is_path old.members (from ∷ b ∷ a ∷ []) ≡ true →
      KeepsThird old new a b from kept → 7 ≤ length old.members → Holds old (Earlier 3) → Holds new (Later 3)
  unfolding tree_level
  kept_third a b two path k many h =
      let long : length item.path + 1 ≡ 3 = ap (λ p. length p + 1) two in
      let z_is : from ∷ b ∷ a ∷ [] ≡ from ∷ reverse item.path = ap (λ p. from ∷ reverse p) (sym two) in
      record {
        first = k.first ∙ h.first
            ∙ sym (level_same old.width old.members old.me old.own received 3 from item rest others long 0 set
            (omega arith)
            (λ y path count e. let l : length y ≡ 3 = ap length (e ∙ sym z_is) in omega (arith, count, l))
            (λ y path count e. let l : length y ≡ 4 = ap length (e ∙ ap (λ x. old.me ∷ x) (sym z_is)) in
            omega (arith, count, l)))
            ∙ sym (same_level new old (Later 3) 1 k.same);
        second = λ some.
            k.second ∙ h.second (omega (arith, many))
            ∙ sym (level_same old.width old.members old.me old.own received 3 from item rest others long 1 set
            (omega arith)
            (λ y path count e. let l : length y ≡ 3 = ap length (e ∙ sym z_is) in omega (arith, count, l))
            (λ y path count e. let l : length y ≡ 4 = ap length (e ∙ ap (λ x. old.me ∷ x) (sym z_is)) in
            omega (arith, count, l)))
            ∙ sym (same_level new old (Later 3) 2 k.same);
        third = λ some.
            k.third ∙ ap (λ xs. slice_set xs (rank old.members (from ∷ b ∷ a ∷ [])) kept) (h.third many)
            ∙ sym (level_at old.width old.members old.me old.own received 3 from item rest others long 2
            (from ∷ b ∷ a ∷ []) set (omega arith) path refl z_is)
            ∙ sym (same_level new old (Later 3) 3 k.same);
      }

-- an item for a path that has a label that is no member changes nothing
pub kept_nowhere : (t : TreeValue) (received : ReceivedItems) (round : ℕ) (from : Channel) (item : ItemValue)
    (rest : List ItemValue) (a : Channel) → is_set t.members ≡ true → (from ≡ t.me → ⊥) → length item.path + 1 ≡ round →
    has t.members a ≡ false → has (from ∷ reverse item.path) a ≡ true →
    Holds t (with_items_of received round from rest) → Holds t (with_items_of received round from (item ∷ rest))
unfolding tree_level
kept_nowhere t received round from item rest a set another long none there h =
    record {
      first = h.first ∙ sym (same 0 (omega arith));
      second = λ many. h.second many ∙ sym (same 1 (omega arith));
      third = λ many. h.third many ∙ sym (same 2 (omega arith));
    }
  where
    same : (k : ℕ) → k ≤ 2 → tree_level t (with_items_of received round from (item ∷ rest)) (suc k)
        ≡ tree_level t (with_items_of received round from rest) (suc k)
    same k small =
        level_same t.width t.members t.me t.own received round from item rest
        (unequal from t.me (from == t.me) refl another) long k set small
        (λ y path count e. no_member t.members a none y (from ∷ reverse item.path) path there e)
        (λ y path count e. no_member t.members a none y (t.me ∷ from ∷ reverse item.path) path
        (or_true (t.me == a) (has (from ∷ reverse item.path) a) there) e)

-- ---- an item in range

labels_none : (xs : List ℕ) → length xs + 1 ≡ 1 → xs ≡ []
labels_none [] h = refl
labels_none (x ∷ xs) h = absurd (omega (arith, h))

pub labels_one : (xs : List ℕ) (a : ℕ) → length xs + 1 ≡ 2 → slice_get xs 0 ≡ Some a → xs ≡ a ∷ []
labels_one [] a h e = absurd (omega (arith, h))
labels_one (x ∷ []) a h e = ap (λ y. y ∷ []) (let same : x ≡ a = cc in same)
labels_one (x ∷ y ∷ xs) a h e = absurd (omega (arith, h))

pub labels_two : (xs : List ℕ) (a b : ℕ) → length xs + 1 ≡ 3 → slice_get xs 0 ≡ Some a → slice_get xs 1 ≡ Some b →
    xs ≡ a ∷ b ∷ []
labels_two [] a b h e k = absurd (omega (arith, h))
labels_two (x ∷ []) a b h e k = absurd (omega (arith, h))
labels_two (x ∷ y ∷ []) a b h e k =
    ap (λ z. z ∷ y ∷ []) (let same : x ≡ a = cc in same) ∙ ap (λ z. a ∷ z ∷ []) (let same : y ≡ b = cc in same)
labels_two (x ∷ y ∷ z ∷ xs) a b h e k = absurd (omega (arith, h))

label_below : (xs : List ℕ) (k a : ℕ) → list_all is_channel xs ≡ true → slice_get xs k ≡ Some a → a < 7
label_below [] k a h e = absurd cc
label_below (x ∷ xs) zero a h e =
    let same : x ≡ a = cc in subst (λ n. n < 7) same
    (leb-true (suc x) 7 (both (is_channel x) (list_all is_channel xs) h).0)
label_below (x ∷ xs) (suc k) a h e = label_below xs k a (both (is_channel x) (list_all is_channel xs) h).1 e

-- a tree and a member that an item comes from
pub record IsReady (t : TreeValue) (round : ℕ) (from : Channel) (item : ItemValue) : Type 0 where
  pub set : is_set t.members ≡ true
  pub mine : has t.members t.me ≡ true
  pub member : has t.members from ≡ true
  pub another : from ≢ t.me
  pub range : item_in_range from round item ≡ true

pub ready_from : (t shown : TreeValue) (round : ℕ) (from : Channel) (item : ItemValue) → t ≡ shown →
    is_set t.members ≡ true → has t.members t.me ≡ true →
    has shown.members from ≡ true → from ≢ shown.me → item_in_range from round item ≡ true →
    IsReady shown round from item
ready_from t shown round from item e set mine member another range =
    record {
      set = subst (λ (t : TreeValue). is_set t.members ≡ true) e set;
      mine = subst (λ (t : TreeValue). has t.members t.me ≡ true) e mine;
      member = member;
      another = another;
      range = range;
    }

-- a label of an item in range is a channel
pub ready_label : (round : ℕ) (from : Channel) (item : ItemValue) (k a : ℕ) → item_in_range from round item ≡ true →
    slice_get item.path k ≡ Some a → a < 7
ready_label round from item k a range at =
    let front = both (length item.path + 1 == round && path_in_range from item.path)
    (absent_or source_word_in_range item.word) range in
    let labels = both (length item.path + 1 == round) (path_in_range from item.path) front.0 in
    label_below item.path k a (both (list_all is_channel item.path) (is_distinct (from ∷ item.path)) labels.1).0 at

pub ready_long : (t : TreeValue) (round : ℕ) (from : Channel) (item : ItemValue) → IsReady t round from item →
    length item.path + 1 ≡ round
ready_long t round from item r =
    let front = both (length item.path + 1 == round && path_in_range from item.path)
    (absent_or source_word_in_range item.word) r.range in
    eqb-true (length item.path + 1) round
    (both (length item.path + 1 == round) (path_in_range from item.path) front.0).0

ready_distinct : (t : TreeValue) (round : ℕ) (from : Channel) (item : ItemValue) → IsReady t round from item →
    is_distinct (from ∷ item.path) ≡ true
ready_distinct t round from item r =
    let front = both (length item.path + 1 == round && path_in_range from item.path)
    (absent_or source_word_in_range item.word) r.range in
    let labels = both (length item.path + 1 == round) (path_in_range from item.path) front.0 in
    (both (list_all is_channel item.path) (is_distinct (from ∷ item.path)) labels.1).1

pub put_first : (t new : TreeValue) (received : ReceivedItems) (round : ℕ) (from : Channel) (item : ItemValue)
    (rest : List ItemValue) (v : Option SourceValue) → IsReady t round from item → round ≡ 1 →
    v ≡ option_and_then (of_width t.width) item.word → KeepsFirst t new from v →
    Holds t (with_items_of received round from rest) → Holds new (with_items_of received round from (item ∷ rest))
put_first t new received round from item rest v r e is k h =
    let long : length item.path + 1 ≡ 1 = ready_long t round from item r ∙ e in
    subst (λ n. Holds new (with_items_of received n from (item ∷ rest))) (sym e)
    (kept_first t new received from item rest r.set r.mine r.member r.another (labels_none item.path long)
    (subst (λ x. KeepsFirst t new from x) is k) (subst (λ n. Holds t (with_items_of received n from rest)) e h))

pub second_path : (t : TreeValue) (round : ℕ) (from : Channel) (item : ItemValue) (a : Channel) →
    IsReady t round from item → item.path ≡ a ∷ [] → has t.members a ≡ true → is_path t.members (from ∷ a ∷ []) ≡ true
second_path t round from item a r one there =
    and_true (is_distinct (from ∷ a ∷ [])) (has t.members from && (has t.members a && true))
    (subst (λ p. is_distinct (from ∷ p) ≡ true) one (ready_distinct t round from item r))
    (and_true (has t.members from) (has t.members a && true) r.member (and_true (has t.members a) true there refl))

pub put_second : (t new : TreeValue) (received : ReceivedItems) (round : ℕ) (from : Channel) (item : ItemValue)
    (rest : List ItemValue) (v : Option SourceValue) (a : Channel) → IsReady t round from item → round ≡ 2 →
    item.path ≡ a ∷ [] → has t.members a ≡ true → 4 ≤ length t.members →
    v ≡ option_and_then (of_width t.width) item.word → KeepsSecond t new a from v →
    Holds t (with_items_of received round from rest) → Holds new (with_items_of received round from (item ∷ rest))
put_second t new received round from item rest v a r e one there many is k h =
    subst (λ n. Holds new (with_items_of received n from (item ∷ rest))) (sym e)
    (kept_second t new received from item rest r.set r.mine r.member r.another a one
    (second_path t round from item a r one there) (subst (λ x. KeepsSecond t new a from x) is k) many
    (subst (λ n. Holds t (with_items_of received n from rest)) e h))

-- three labels are different in either order
turned : (from a b : Channel) → is_distinct (from ∷ a ∷ b ∷ []) ≡ true → is_distinct (from ∷ b ∷ a ∷ []) ≡ true
unfolding is_distinct
turned from a b h = by (a == from) (b == from) (b == a) (a == b) (same a b (a == b) (b == a) refl refl) h
  where
    by : (x y p q : Bool) → q ≡ p → (not (x || (y || false)) && (not (p || false) && true)) ≡ true →
        (not (y || (x || false)) && (not (q || false) && true)) ≡ true
    by false false false q e h = ap (λ b. not (b || false) && true) e
    by true y p q e h = absurd cc
    by false true p q e h = absurd cc
    by false false true q e h = absurd cc

    same : (a b : ℕ) (p q : Bool) → (a == b) ≡ p → (b == a) ≡ q → (a == b) ≡ (b == a)
    same a b true true h k = h ∙ sym k
    same a b false false h k = h ∙ sym k
    same a b true false h k = differ (sym (eq-eqb b a (sym (eqb-true a b h))) ∙ k)
    same a b false true h k = differ (sym (eq-eqb a b (sym (eqb-true b a k))) ∙ h)

pub third_path : (t : TreeValue) (round : ℕ) (from : Channel) (item : ItemValue) (a b : Channel) →
    IsReady t round from item → item.path ≡ a ∷ b ∷ [] → has t.members a ≡ true → has t.members b ≡ true →
    is_path t.members (from ∷ b ∷ a ∷ []) ≡ true
third_path t round from item a b r two there_a there_b =
    and_true (is_distinct (from ∷ b ∷ a ∷ [])) (has t.members from && (has t.members b && (has t.members a && true)))
    (turned from a b (subst (λ p. is_distinct (from ∷ p) ≡ true) two (ready_distinct t round from item r)))
    (and_true (has t.members from) (has t.members b && (has t.members a && true)) r.member
    (and_true (has t.members b) (has t.members a && true) there_b (and_true (has t.members a) true there_a refl)))

pub put_third : (t new : TreeValue) (received : ReceivedItems) (round : ℕ) (from : Channel) (item : ItemValue)
    (rest : List ItemValue) (v : Option SourceValue) (a b : Channel) → IsReady t round from item → round ≡ 3 →
    item.path ≡ a ∷ b ∷ [] → has t.members a ≡ true → has t.members b ≡ true → 7 ≤ length t.members →
    v ≡ option_and_then (of_width t.width) item.word → KeepsThird t new a b from v →
    Holds t (with_items_of received round from rest) → Holds new (with_items_of received round from (item ∷ rest))
put_third t new received round from item rest v a b r e two there_a there_b many is k h =
    subst (λ n. Holds new (with_items_of received n from (item ∷ rest))) (sym e)
    (kept_third t new received from item rest r.set r.mine r.member r.another a b two
    (third_path t round from item a b r two there_a there_b) (subst (λ x. KeepsThird t new a b from x) is k) many
    (subst (λ n. Holds t (with_items_of received n from rest)) e h))

pub put_nowhere_one : (t : TreeValue) (received : ReceivedItems) (round : ℕ) (from : Channel) (item : ItemValue)
    (rest : List ItemValue) (a : Channel) → IsReady t round from item → item.path ≡ a ∷ [] → has t.members a ≡ false →
    Holds t (with_items_of received round from rest) → Holds t (with_items_of received round from (item ∷ rest))
put_nowhere_one t received round from item rest a r one none h =
    kept_nowhere t received round from item rest a r.set r.another (ready_long t round from item r) none
    (ap (λ p. has (from ∷ reverse p) a) one
    ∙ or_true (from == a) ((a == a) || false) (ap (λ b. b || false) (eq-eqb a a refl))) h

pub put_nowhere_two : (t : TreeValue) (received : ReceivedItems) (round : ℕ) (from : Channel) (item : ItemValue)
    (rest : List ItemValue) (a b c : Channel) → IsReady t round from item → item.path ≡ a ∷ b ∷ [] →
    has (a ∷ b ∷ []) c ≡ true → has t.members c ≡ false →
    Holds t (with_items_of received round from rest) → Holds t (with_items_of received round from (item ∷ rest))
put_nowhere_two t received round from item rest a b c r two among none h =
    kept_nowhere t received round from item rest c r.set r.another (ready_long t round from item r) none
    (ap (λ p. has (from ∷ reverse p) c) two
    ∙ or_true (from == c) ((b == c) || ((a == c) || false)) (swap (a == c) (b == c) among)) h
  where
    swap : (x y : Bool) → (x || (y || false)) ≡ true → (y || (x || false)) ≡ true
    swap true true h = refl
    swap true false h = refl
    swap false true h = refl
    swap false false h = absurd cc

pub among_first : (a b : Channel) → has (a ∷ b ∷ []) a ≡ true
among_first a b = ap (λ x. x || ((b == a) || false)) (eq-eqb a a refl)

pub among_second : (a b : Channel) → has (a ∷ b ∷ []) b ≡ true
among_second a b = or_true (a == b) ((b == b) || false) (ap (λ x. x || false) (eq-eqb b b refl))
