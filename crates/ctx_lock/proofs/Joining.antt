-- Joining two seats keeps the rule.
use Rattle.std.proofs.Common.{◌≡◌, ℕ, ◌+◌, ◌<◌, ◌≤◌, ◌⊎◌, List, length, set, sym, refl, ap, ◌∙◌, subst, inl, inr, arith, Option, Bool, true, false, cond}
use Rattle.std.proofs.lemmas.Bool.{leb-true, leb-false}
use Rattle.std.specs.Prelude.{nat_le}
use native.Mathlib.Decide.{ℕ_discrete}
use mathlib.Core.Option.{some}
use lib.ListN.{get_elem?}
use Rattle.atomic_table.specs.Table.{State, Joins}
use Rattle.atomic_table.proofs.Lists.{at_set, set_else}
use Rattle.guards_model.specs.declared.Actor.{Actor}
use Rattle.guards_model.specs.declared.Actor.TheVariants.{Sweep}
use Rattle.ctx_lock.specs.declared.view.Stage.{Stage}
use Rattle.ctx_lock.specs.declared.view.Stage.TheVariants.{Waits}
use Rattle.ctx_lock.specs.declared.view.View.{View}
use Rattle.ctx_lock.specs.History.{times, StartsWith}
use Rattle.ctx_lock.specs.Views.{has, made, opens, turns, opening_weight, turn_weight, spent, longer, shorter, joined}
use Rattle.ctx_lock.specs.Rule.{total, IsView, FitsView, Ordered}
use Rattle.ctx_lock.proofs.Totals.{total-set}
use Rattle.ctx_lock.proofs.Histories.{times-append, times_mono, starts_same, starts_trans, starts_order}
use Rattle.ctx_lock.proofs.Viewing.{live, times_own, apart}
use Rattle.ctx_lock.proofs.Leaving.{Leaves, same_phase, stage_of}

-- of two beginnings of a history, the longer and the shorter one
pub record Picks (h xs ys : List Actor) : Type 0 where
  pub long : StartsWith h (longer xs ys)
  pub short : StartsWith h (shorter xs ys)
  pub left : StartsWith (longer xs ys) xs
  pub right : StartsWith (longer xs ys) ys

pub picks : (h xs ys : List Actor) → StartsWith h xs → StartsWith h ys → Picks h xs ys
picks h xs ys p q = record { long = all.0; short = all.1; left = all.2; right = all.3 }
  where
    pick : (t : Bool) → (t ≡ true → length xs ≤ length ys) → (t ≡ false → length ys < length xs) →
        StartsWith h (cond t ys xs) × StartsWith h (cond t xs ys) × StartsWith (cond t ys xs) xs
        × StartsWith (cond t ys xs) ys
    pick true le gt = (q, p, starts_order h xs ys p q (le refl), starts_same ys)
    pick false le gt = let lt = gt refl in (p, q, starts_same xs, starts_order h ys xs q p (omega arith))

    all : StartsWith h (longer xs ys) × StartsWith h (shorter xs ys) × StartsWith (longer xs ys) xs
        × StartsWith (longer xs ys) ys
    all = pick (nat_le (length xs) (length ys)) (leb-true (length xs) (length ys)) (leb-false (length xs) (length ys))

module _ {T O : Type 0} (origin : T → O) (history : T → List Actor) (due : O → Actor → ℕ) (o : O)
    (first : List Actor) where
  abbrev Table : Type 0
  Table = State (Option T) (View O)

  abbrev Rule : Table → Type 0
  Rule = Ordered origin history due o first

  -- joining two seats
  module _ (s : Table) (rule : Rule s) (id other : ℕ) (v w : View O) (p q : Actor) (some_p : 0 < has p v)
      (some_q : 0 < has q w) (waits_v : v.stage ≡ Waits) (waits_w : w.stage ≡ Waits)
      (at_v : get_elem? s.views id ≡ some v) (ne : ¬ (other ≡ id))
      (at_other : get_elem? (set s.views id (joined v w)) other ≡ some w) where
    abbrev b : View O
    b = joined v w

    abbrev final : List (View O)
    final = set (set s.views id b) other spent

    at_w : get_elem? s.views other ≡ some w
    at_w = sym (set_else s.views id other b ne) ∙ at_other

    know_v : IsView o first rule.h v
    know_v = live o first rule.h v p some_p (rule.views.each id v at_v)

    know_w : IsView o first rule.h w
    know_w = live o first rule.h w q some_q (rule.views.each other w at_w)

    same_sum : (f : View O → ℕ) → f b ≡ f v + f w → f spent ≡ 0 → total f final ≡ total f s.views
    same_sum f e z = omega (
      arith,
      total-set f s.views id v b at_v,
      total-set f (set s.views id b) other w spent at_other,
    )

    abbrev Of : ℕ → View O → Type 0
    Of k u = (spent ≡ u) ⊎ ((b ≡ u) ⊎ (get_elem? s.views k ≡ some u))

    each_of : (k : ℕ) (u : View O) → get_elem? final k ≡ some u → Of k u
    each_of k u e = elim (at_set (set s.views id b) other k spent u e) [
      | inl t ↦ inl t.1
      | inr t ↦ elim (at_set s.views id k b u t.1) [ inl t' ↦ inr (inl t'.1) | inr t' ↦ inr (inr t'.1) ]
    ]

    parts : Picks rule.h v.seen w.seen
    parts = picks rule.h v.seen w.seen know_v.seen know_w.seen

    join_own : (a : Actor) → has a b ≡ 0 → made a b ≡ 0
    join_own a lacks =
        let x = times-append a v.actors w.actors in
        let y = times-append a v.steps w.steps in
        omega (arith, know_v.own a (omega arith), know_w.own a (omega arith))

    join_counted : (a : Actor) → 0 < has a b → times a b.seen ≡ times a first + made a b
    join_counted a some_has =
        let x = times-append a v.actors w.actors in
        let y = times-append a v.steps w.steps in
        let up = times_mono a b.seen rule.h parts.long in
        let up_v = times_mono a v.seen b.seen parts.left in
        let up_w = times_mono a w.seen b.seen parts.right in
        elim (ℕ_discrete (has a v) 0) as (λ _. times a b.seen ≡ times a first + made a b) [
          | yes none_v ↦
              let some_w : 0 < has a w = omega arith in
              omega (
                arith,
                know_v.own a none_v,
                know_w.counted a some_w,
                times_own o first rule.h s.views rule.views other w a at_w some_w,
              )
          | no more_v ↦
              let some_v : 0 < has a v = omega arith in
              let none_w : has a w ≡ 0 = apart o first rule.h s.views rule.views id other v w a ne at_v at_w some_v in
              omega (
                arith,
                know_w.own a none_w,
                know_v.counted a some_v,
                times_own o first rule.h s.views rule.views id v a at_v some_v,
              )
        ]

    join_view : IsView o first rule.h b
    join_view = record {
      origin = know_v.origin;
      first_is = know_v.first_is;
      started = starts_trans first v.seen b.seen parts.left know_v.started;
      seen = parts.long;
      heard = parts.short;
      own = join_own;
      counted = join_counted;
      acts = λ e. absurd (let n = sym e ∙ waits_v in cc);
    }

    join_fits : (k : ℕ) (u : View O) → Of k u → FitsView o first rule.h u
    join_fits k u (inl e) = inl (sym e)
    join_fits k u (inr (inl e)) = inr (subst (λ (x : View O). IsView o first rule.h x) e join_view)
    join_fits k u (inr (inr e)) = rule.views.each k u e

    abbrev joined_table : Table
    joined_table = record { words = s.words; homes = s.homes; views = final }

    active_of : (stage : Stage) → ¬ (Waits ≡ stage) → (k : ℕ) (u : View O) → u.stage ≡ stage → Of k u →
        get_elem? s.views k ≡ some u
    active_of stage ne' k u is (inl e) = absurd (stage_of spent u stage refl e is ne')
    active_of stage ne' k u is (inr (inl e)) = absurd (stage_of b u stage waits_v e is ne')
    active_of stage ne' k u is (inr (inr e)) = e

    join_leaves : Leaves s joined_table
    join_leaves = record {
      word = refl;
      homes = refl;
      opening = same_sum opens (let e = ap opening_weight waits_w in omega arith) refl;
      turn = same_sum turns (let e = ap turn_weight waits_w in omega arith) refl;
      active = λ stage ne' k u is e. active_of stage ne' k u is (each_of k u e);
    }

    join_rule : Rule joined_table
    join_rule = record {
      h = rule.h;
      wide = rule.wide;
      legal = rule.legal;
      views = record {
        each = λ k u e. join_fits k u (each_of k u e);
        single = λ a. omega (arith, same_sum (has a) (times-append a v.actors w.actors) refl, rule.views.single a);
        counted = λ a. omega (arith, same_sum (made a) (times-append a v.steps w.steps) refl, rule.views.counted a);
      };
      unclaimed = λ zero. same_sum (has Sweep) (times-append Sweep v.actors w.actors) refl ∙ rule.unclaimed zero;
      phase = same_phase origin history due o first rule.h s joined_table join_leaves rule.phase;
    }

  pub joins : (id : ℕ) (v : View O) (other : ℕ) (w : View O) (p q : Actor) → 0 < has p v → 0 < has q w →
      v.stage ≡ Waits → w.stage ≡ Waits
      → Joins Rule id v other w (joined v w) spent
  joins id v other w p q some_p some_q waits_v waits_w s rule at_v ne at_other =
      join_rule s rule id other v w p q some_p some_q waits_v waits_w at_v ne at_other
