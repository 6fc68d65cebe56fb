-- The walk that keeps the items of a frame, from the last one on.
use Rattle.std.proofs.Common.{◌≡◌, ℕ, zero, suc, ◌+◌, ◌<◌, ◌≤◌, ◌==◌, Bool, true, false, cond, ◌&&◌, List, [], ◌∷◌, length, drop, get_or, refl, sym, ap, subst, ◌∙◌, arith, drop-cons}
use Rattle.std.specs.List.{list_all}
use Rattle.std.proofs.lemmas.Bool.{eqb-true}
use Rattle.guards_model.specs.Channels.{Channel}
use Rattle.guards_model.specs.Frames.{ItemValue}
use Rattle.guards_model.proofs.BoolTests.{both}
use Rattle.oral_messages.specs.Trees.{TreeValue, ReceivedItems, with_items_of, Holds, IsSameMember}

-- what the walk has done when so many items are left
pub record HasKept (old now : TreeValue) (round : ℕ) (from : Channel) (items : List ItemValue) (left : ℕ) : Type 0 where
  pub same : IsSameMember now old
  pub bound : left ≤ length items
  pub kept : (received : ReceivedItems) → Holds old received → received round from ≡ [] →
      Holds now (with_items_of received round from ((drop left items)))

with_none : (received : ReceivedItems) (round : ℕ) (from : Channel) → received round from ≡ [] →
    with_items_of received round from [] ≡ received
with_none received round from none = λ i r j. at r j (r == round) (j == from) refl refl i
  where
    at : (r : ℕ) (j : Channel) (a b : Bool) → (r == round) ≡ a → (j == from) ≡ b →
        cond (a && b) [] (received r j) ≡ received r j
    at r j true true e h = sym
        (ap (λ k. received k j) (eqb-true r round e) ∙ ap (received round) (eqb-true j from h) ∙ none)
    at r j true false e h = refl
    at r j false b e h = refl

drop_end : {A : Type 0} (xs : List A) → drop (length xs) xs ≡ []
drop_end [] = refl
drop_end (x ∷ xs) = drop_end xs

same_self : (t : TreeValue) → IsSameMember t t
same_self t = record { members = refl; me = refl; width = refl; own = refl }

pub kept_none : (t : TreeValue) (round : ℕ) (from : Channel) (items : List ItemValue) (left : ℕ) → left ≡ length items →
    HasKept t t round from items left
kept_none t round from items left e =
    record {
      same = same_self t;
      bound = omega (arith, e);
      kept = λ received h none.
          subst (λ xs. Holds t (with_items_of received round from xs)) (sym (ap (λ n. drop n items) e ∙ drop_end items))
          (subst (λ r. Holds t r) (sym (with_none received round from none)) h);
    }

same_on : (a b c : TreeValue) → IsSameMember a b → IsSameMember b c → IsSameMember a c
same_on a b c s t = record {
  members = s.members ∙ t.members;
  me = s.me ∙ t.me;
  width = s.width ∙ t.width;
  own = s.own ∙ t.own;
}

pub kept_more : (old now next : TreeValue) (round : ℕ) (from : Channel) (items : List ItemValue) (left n : ℕ)
    (item : ItemValue) → n + 1 ≡ left → item ≡ get_or items n item → HasKept old now round from items left →
    IsSameMember next now → ((received : ReceivedItems) (rest : List ItemValue) →
    Holds now (with_items_of received round from rest) →
    Holds next (with_items_of received round from (item ∷ rest))) → HasKept old next round from items n
kept_more old now next round from items left n item e is before same keep =
    let bound = before.bound in
    let next_is : suc n ≡ left = omega (arith, e) in
    let lt : n < length items = omega arith in
    let one : drop n items ≡ item ∷ drop left items =
    drop-cons items n item lt ∙ ap (λ x. x ∷ drop (suc n) items) (sym is) ∙ ap (λ k. item ∷ drop k items) next_is in
    record {
      same = same_on next now old same before.same;
      bound = omega arith;
      kept = λ received h none.
          subst (λ xs. Holds next (with_items_of received round from xs)) (sym one)
          (keep received (drop left items) (before.kept received h none));
    }

pub in_range_at : (P : ItemValue → Bool) (items : List ItemValue) (n : ℕ) (item : ItemValue) → list_all P items ≡ true →
    n < length items → item ≡ get_or items n item → P item ≡ true
in_range_at P [] n d h lt is = absurd (omega (arith, lt))
in_range_at P (x ∷ items) zero d h lt is = subst (λ y. P y ≡ true) (sym is) (both (P x) (list_all P items) h).0
in_range_at P (x ∷ items) (suc n) d h lt is =
    in_range_at P items n d (both (P x) (list_all P items) h).1 (omega (arith, lt)) is

pub kept_all : (old now : TreeValue) (round : ℕ) (from : Channel) (items : List ItemValue) (left : ℕ) → left ≡ 0 →
    HasKept old now round from items left → (received : ReceivedItems) → Holds old received → received round from ≡ [] →
    Holds now (with_items_of received round from items)
kept_all old now round from items left e h received holds none =
    subst (λ n. Holds now (with_items_of received round from ((drop n items)))) e (h.kept received holds none)
