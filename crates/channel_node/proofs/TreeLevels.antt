-- A tree of oral messages, and the levels that contracts see of it.
use Rattle.std.proofs.Common.{◌≡◌, ℕ, zero, suc, ◌+◌, ◌≤◌, true, ◌&&◌, List, [], ◌∷◌, length, take, Option, Some, None, refl, ap, sym, subst, ◌∙◌, arith}
use Rattle.std.specs.Prelude.{nat_le, if◌then◌else◌}
use Rattle.std.proofs.lemmas.Bool.{le-leb}
use Rattle.guards_model.specs.Channels.{Channel, ChannelSet, has, tolerated_faults}
use Rattle.guards_model.specs.Frames.{SourceValue, ItemValue, ExchangeValue, exchange_body, between}
use Rattle.guards_model.specs.OralMessages.{items_owed, resolved_value}
use Rattle.guards_nodes.specs.NodeFrames.{exchange_in}
use Rattle.guards_nodes.specs.NodeStates.{ExchangeTreeValue}
use Rattle.guards_nodes.specs.NodeSteps.{Received, nothing_received, with_items, tree_of, tree_for}
use Rattle.oral_messages.specs.Trees.{TreeValue, Holds, BeginsTree, IsSameMember, tree_level, owed_items}
use Rattle.channel_node.specs.Trees.{seen_tree, IsTreeFor, word_from}

levels_agree : {A : Type 0} (m : ℕ) (a b c x y z : A) → m ≤ 2 → a ≡ x → (1 ≤ m → b ≡ y) → (2 ≤ m → c ≡ z) →
    take (m + 1) (a ∷ b ∷ c ∷ []) ≡ take (m + 1) (x ∷ y ∷ z ∷ [])
levels_agree zero a b c x y z small first second third = ap (λ v. v ∷ []) first
levels_agree (suc zero) a b c x y z small first second third = let e : b ≡ y = second (omega arith) in cc
levels_agree (suc (suc zero)) a b c x y z small first second third =
    let e : b ≡ y = second (omega arith) in
    let f : c ≡ z = third (omega arith) in
    cc
levels_agree (suc (suc (suc m))) a b c x y z small first second third = absurd (omega arith)

-- what equal levels tell
record Agree {A : Type 0} (m : ℕ) (a b c x y z : A) : Type 0 where
  first : a ≡ x
  second : 1 ≤ m → b ≡ y
  third : 2 ≤ m → c ≡ z

levels_tell : {A : Type 0} (m : ℕ) (a b c x y z : A) → m ≤ 2 →
    take (m + 1) (a ∷ b ∷ c ∷ []) ≡ take (m + 1) (x ∷ y ∷ z ∷ []) → Agree m a b c x y z
levels_tell zero a b c x y z small same =
    record { first = cc same; second = λ h. absurd (omega (arith, h)); third = λ h. absurd (omega (arith, h)) }
levels_tell (suc zero) a b c x y z small same =
    record { first = cc same; second = λ h. cc same; third = λ h. absurd (omega (arith, h)) }
levels_tell (suc (suc zero)) a b c x y z small same =
    record { first = cc same; second = λ h. cc same; third = λ h. cc same }
levels_tell (suc (suc (suc m))) a b c x y z small same = absurd (omega arith)

-- a tree that holds what was received is seen as the tree for it
pub holds_tree : (t : TreeValue) (received : Received) → length t.members ≤ 7 → Holds t received →
    seen_tree t ≡ tree_for received (seen_tree t)
unfolding tree_level
holds_tree t received few holds =
    ap (λ levels. record { active = t.members; me = t.me; width = t.width; own = t.own; levels = levels })
    (levels_agree (tolerated_faults t.members) t.first t.second t.third
    (tree_level t received 1) (tree_level t received 2) (tree_level t received 3) (omega (arith, few))
    holds.first (λ h. holds.second (omega (arith, h))) (λ h. holds.third (omega (arith, h))))

-- and a tree that is seen so holds it
pub tree_holds : (t : TreeValue) (received : Received) → length t.members ≤ 7 → IsTreeFor received (seen_tree t) →
    Holds t received
unfolding tree_level
tree_holds t received few same =
    let levels : (seen_tree t).levels ≡ (tree_for received (seen_tree t)).levels =
    ap (λ (x : ExchangeTreeValue). x.levels) same in
    let agree : Agree (tolerated_faults t.members) t.first t.second t.third (tree_level t received 1)
    (tree_level t received 2) (tree_level t received 3)
    = levels_tell (tolerated_faults t.members) t.first t.second t.third (tree_level t received 1)
    (tree_level t received 2) (tree_level t received 3)
    (omega (arith, few)) levels in
    record {
      first = agree.first;
      second = λ h. agree.second (omega (arith, h));
      third = λ h. agree.third (omega (arith, h));
    }

-- ---- the calls

-- a tree that was begun
pub begun_tree : (t : TreeValue) (active : ChannelSet) (me : Channel) (width : ℕ) (own : SourceValue) →
    length active ≤ 7 →
    BeginsTree t active me width own → seen_tree t ≡ tree_of active me width own nothing_received
begun_tree t active me width own few begun =
    holds_tree t nothing_received (subst (λ s. length s ≤ 7) (sym begun.members_are) few) begun.holds
    ∙ rw (begun.members_are, begun.me_is, begun.width_is, begun.own_is) refl

-- a tree into which some items were put
pub put_tree : (old new : TreeValue) (received : Received) (round from : ℕ) (items : List ItemValue) →
    length old.members ≤ 7 → IsSameMember new old →
    ((r : Received) → Holds old r → r round from ≡ [] → Holds new (with_items round from items r)) →
    IsTreeFor received (seen_tree old) → received round from ≡ [] →
    seen_tree new ≡ tree_for (with_items round from items received) (seen_tree old)
put_tree old new received round from items few same kept stands none =
    holds_tree new (with_items round from items received) (subst (λ s. length s ≤ 7) (sym same.members) few)
    (kept received (tree_holds old received few stands) none)
    ∙ rw (same.members, same.me, same.width, same.own) refl

made : (x : ExchangeValue) (round : ℕ) (items : List ItemValue) → x.round ≡ round → x.items ≡ items →
    x ≡ record { round = round; items = items }
made x round items same told = rw (← same, ← told) refl

-- what a tree relays
pub exchange_told : (t : TreeValue) (received : Received) (round : ℕ) (x : ExchangeValue) → length t.members ≤ 7 →
    1 ≤ round → round ≤ tolerated_faults t.members + 1 →
    x.round ≡ round → ((r : Received) → Holds t r → x.items ≡ owed_items t r round) → IsTreeFor received (seen_tree t) →
    Some (exchange_body x) ≡ exchange_in received round (seen_tree t)
unfolding owed_items
exchange_told t received round x few low high same told stands =
    let items : x.items ≡ items_owed t.members t.width t.me t.own received round =
    told received (tree_holds t received few stands) in
    let one : nat_le 1 round ≡ true = le-leb 1 round low in
    let last : nat_le round (tolerated_faults t.members + 1) ≡ true =
    le-leb round (tolerated_faults t.members + 1) high in
    let here : between 1 (tolerated_faults t.members + 1) round ≡ true =
    ap (λ b. b && nat_le round (tolerated_faults t.members + 1)) one ∙ last in
    ap (λ (e : ExchangeValue). Some (exchange_body e))
    (made x round (items_owed t.members t.width t.me t.own received round) same items)
    ∙ ap (λ b. if b then Some
    (exchange_body (record { round = round; items = items_owed t.members t.width t.me t.own received round }))
    else None) (sym here)

-- a member's word
pub agreed_told : (t : TreeValue) (received : Received) (s : Channel) (w : Option SourceValue) → length t.members ≤ 7 →
    has t.members s ≡ true →
    ((r : Received) → Holds t r →
    w ≡ resolved_value t.members t.width t.me t.own r (tolerated_faults t.members) (s ∷ [])) →
    IsTreeFor received (seen_tree t) → w ≡ word_from received (seen_tree t) s
agreed_told t received s w few member told stands =
    told received (tree_holds t received few stands)
    ∙ ap (λ b. if b then resolved_value t.members t.width t.me t.own received (tolerated_faults t.members) (s ∷ [])
    else None) (sym member)
