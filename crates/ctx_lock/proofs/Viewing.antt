-- Views that change at one place.
use Rattle.std.proofs.Common.{◌≡◌, ℕ, ◌+◌, ◌<◌, ◌≤◌, ◌≢◌, List, [], ◌∷◌, ◌++◌, set, ap, subst, inl, inr, arith, Some}
use mathlib.Core.Option.{some}
use lib.ListN.{get_elem?}
use Rattle.atomic_table.proofs.Lists.{at_set, at_snoc}
use Rattle.guards_model.specs.declared.Actor.{Actor}
use Rattle.ctx_lock.specs.declared.view.View.{View}
use Rattle.ctx_lock.specs.History.{times, StartsWith}
use Rattle.ctx_lock.specs.Views.{has, made}
use Rattle.ctx_lock.specs.Rule.{total, IsView, FitsView, AreViews}
use Rattle.ctx_lock.proofs.Totals.{total-set, total-append, terms_le, sole}
use Rattle.ctx_lock.proofs.Histories.{starts_trans}

module _ {O : Type 0} (o : O) (first : List Actor) where
  -- a view keeps its facts as the history grows
  pub grown : (h h' : List Actor) (v : View O) → StartsWith h' h → FitsView o first h v → FitsView o first h' v
  grown h h' v p (inl e) = inl e
  grown h h' v p (inr f) = inr
      record {
        origin = f.origin;
        first_is = f.first_is;
        started = f.started;
        seen = starts_trans v.seen h h' p f.seen;
        heard = starts_trans v.heard h h' p f.heard;
        own = f.own;
        counted = f.counted;
        acts = f.acts;
      }

  -- a view that has an actor is not spent
  pub live : (h : List Actor) (v : View O) (a : Actor) → 0 < has a v → FitsView o first h v → IsView o first h v
  live h v a some_has (inl e) = let n : has a v ≡ 0 = ap (has a) e in absurd (omega arith)
  live h v a some_has (inr f) = f

  -- a view that has an origin is not spent
  pub born : (h : List Actor) (v : View O) (p : O) → v.origin ≡ Some p → FitsView o first h v → IsView o first h v
  born h v p is (inl e) = let n = ap (λ (u : View O). u.origin) e in absurd (cc)
  born h v p is (inr f) = f

  pub own_of : (h : List Actor) (v : View O) (a : Actor) → FitsView o first h v → has a v ≡ 0 → made a v ≡ 0
  own_of h v a (inl e) none = ap (made a) e
  own_of h v a (inr f) none = f.own a none

  module _ (h : List Actor) (views : List (View O)) (all : AreViews o first h views) where
    -- the steps of an actor that a seat has are all that seat's
    pub sole_made : (id : ℕ) (v : View O) (a : Actor) → get_elem? views id ≡ some v → 0 < has a v →
        total (made a) views ≡ made a v
    sole_made id v a at some_has =
        sole (made a) (has a) views id v at some_has (all.single a) (λ j u d. own_of h u a (all.each j u d))

    pub times_own : (id : ℕ) (v : View O) (a : Actor) → get_elem? views id ≡ some v → 0 < has a v →
        times a h ≡ times a first + made a v
    times_own id v a at some_has = omega (arith, all.counted a, sole_made id v a at some_has)

    -- two seats do not have one actor
    pub apart : (j k : ℕ) (v u : View O) (a : Actor) → k ≢ j → get_elem? views j ≡ some v → get_elem? views k ≡ some u →
        0 < has a v → has a u ≡ 0
    apart j k v u a n at_j at_k some_has = omega (arith, terms_le (has a) views j k v u n at_j at_k, all.single a)

    pub views_set : (h' : List Actor) (id : ℕ) (v w : View O) → get_elem? views id ≡ some v → StartsWith h' h →
        FitsView o first h' w
        → ((a : Actor) → total (has a) (set views id w) ≤ 1) →
        ((a : Actor) → times a h' + made a v ≡ times a h + made a w) → AreViews o first h' (set views id w)
    views_set h' id v w at more fits single counts = record {
      each = λ k u d. elim (at_set views id k w u d) [
        | inl t ↦ subst (λ (x : View O). FitsView o first h' x) t.1 fits
        | inr t ↦ grown h h' u more (all.each k u t.1)
      ];
      single = single;
      counted = λ a. let s = total-set (made a) views id v w at in omega (arith, counts a, all.counted a);
    }

    -- the same where the seat keeps its actors
    pub same_actors : (id : ℕ) (v w : View O) (a : Actor) → get_elem? views id ≡ some v → has a w ≡ has a v →
        total (has a) (set views id w) ≤ 1
    same_actors id v w a at same = let s = total-set (has a) views id v w at in omega (arith, all.single a)

    -- a further seat, which has no actor
    pub views_more : (w : View O) → IsView o first h w → ((a : Actor) → has a w ≡ 0) →
        AreViews o first h (views ++ w ∷ [])
    views_more w is none = record {
      each = λ k u d. elim (at_snoc views w u k d)
          [ inl t ↦ all.each k u t | inr t ↦ subst (λ (x : View O). FitsView o first h x) t (inr is) ];
      single = λ a. let s = total-append (has a) views (w ∷ []) in omega (arith, all.single a, none a);
      counted = λ a. let s = total-append (made a) views (w ∷ []) in omega (arith, all.counted a, is.own a (none a));
    }
