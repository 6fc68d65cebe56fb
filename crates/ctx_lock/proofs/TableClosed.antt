-- What is known of a table at its end.
use Rattle.std.proofs.Common.{◌≡◌, ℕ, ◌<◌, List, [], ◌∷◌, sym, refl, ap, ◌∙◌, subst, inl, inr, arith, Option, Some, None, Bool, true, false, cond, length}
use Rattle.std.specs.Prelude.{nat_le}
use mathlib.Core.Logic.{dite}
use native.Mathlib.Decide.{ℕ_discrete}
use mathlib.Core.Option.{some, some-injective}
use lib.ListN.{get_elem?}
use Rattle.atomic_table.specs.Table.{State, Final, Seen}
use Rattle.guards_model.specs.declared.Actor.{Actor}
use Rattle.guards_model.specs.declared.Actor.TheVariants.{Task, Sweep}
use Rattle.ctx_lock.specs.declared.view.Stage.{Stage}
use Rattle.ctx_lock.specs.declared.view.Stage.TheVariants.{Waits, Opens, Turns}
use Rattle.ctx_lock.specs.declared.view.View.{View}
use Rattle.ctx_lock.specs.History.{times, StartsWith}
use Rattle.ctx_lock.specs.Views.{has, made, opens, turns, opening_weight, turn_weight, longer, shorter, joined}
use Rattle.ctx_lock.specs.Rule.{IsView, IsVacant, IsFree, Phase, Ordered, FitsView}
use Rattle.ctx_lock.specs.Plays.{IsLast}
use Rattle.ctx_lock.specs.Passes.{IsClosed}
use Rattle.ctx_lock.proofs.Totals.{some_item}
use Rattle.ctx_lock.proofs.Histories.{times-append}
use Rattle.ctx_lock.proofs.Viewing.{live, times_own, apart}
use Rattle.ctx_lock.proofs.Seating.{vacant}

is_opening : (stage : Stage) → 0 < opening_weight stage → stage ≡ Opens
is_opening Waits more = absurd (omega arith)
is_opening Opens more = refl
is_opening Turns more = absurd (omega arith)

is_turn : (stage : Stage) → 0 < turn_weight stage → stage ≡ Turns
is_turn Waits more = absurd (omega arith)
is_turn Opens more = absurd (omega arith)
is_turn Turns more = refl

-- who has seen the longer and the shorter has seen both
parted : (h xs ys : List Actor) → StartsWith h (longer xs ys) → StartsWith h (shorter xs ys) →
    StartsWith h xs × StartsWith h ys
parted h xs ys long short = part (nat_le (length xs) (length ys)) long short
  where
    part : (t : Bool) → StartsWith h (cond t ys xs) → StartsWith h (cond t xs ys) → StartsWith h xs × StartsWith h ys
    part true p q = (q, p)
    part false p q = (p, q)

module _ {T O : Type 0} (origin : T → O) (history : T → List Actor) (due : O → Actor → ℕ) (o : O)
    (first : List Actor) where
  abbrev Table : Type 0
  Table = State (Option T) (View O)

  abbrev Rule : Table → Type 0
  Rule = Ordered origin history due o first

  -- while a seat is to open the table, the slot is empty
  pub stays_empty : (id : ℕ) (v : View O) (p : O) (ws : List ℕ) (xs : List (Option T)) → v.origin ≡ Some p →
      v.stage ≡ Opens → Final (Seen Rule id v) ws xs → get_elem? xs 0 ≡ some None
  stays_empty id v p ws xs is stage last =
      let s : Table = last.0 in
      let seen : Seen Rule id v s = last.1 in
      let q : IsVacant origin history due first seen.0.h s =
      vacant origin history due o first s seen.0 id v p is stage seen.1 seen.0.phase in
      last.4 0 None (ap (λ hs. get_elem? hs 0) q.home)

  -- a seat that has both actors and waits leaves the turn to nobody else
  module _ (s : Table) (rule : Rule s) (id : ℕ) (v : View O) (at : get_elem? s.views id ≡ some v)
      (both : (a : Actor) → 0 < has a v) (waits : v.stage ≡ Waits) where
    other : (k : ℕ) (u : View O) (stage : Stage) (a : Actor) → get_elem? s.views k ≡ some u → u.stage ≡ stage →
        ¬ (Waits ≡ stage) → 0 < has a u → ⊥
    other k u stage a at_u is ne some_u = dite (ℕ_discrete k id)
        (λ e. let same : v ≡ u = some-injective v u (sym at ∙ (ap (get_elem? s.views) (sym e) ∙ at_u)) in
        ne (sym waits ∙ (ap (λ (x : View O). x.stage) same ∙ is)))
        (λ n. let none_u : has a u ≡ 0 = apart o first rule.h s.views rule.views id k v u a n at at_u (both a) in
        omega arith)

    at_rest : Phase origin history due o first rule.h s → IsFree origin history due o rule.h s
    at_rest (inl q) =
        let t = some_item opens s.views (let n = q.opening in omega arith) in
        let stage : t.1.stage ≡ Opens = is_opening t.1.stage t.3 in
        absurd (other t.0 t.1 Opens Task t.2 stage (λ e. cc) (q.task t.0 t.1 t.2 stage))
    at_rest (inr (inl q)) = q
    at_rest (inr (inr q)) =
        let t = some_item turns s.views (let n = q.turn in omega arith) in
        let stage : t.1.stage ≡ Turns = is_turn t.1.stage t.3 in
        let acts : (a : Actor) × (0 < has a t.1) = acts_of t.1 (rule.views.each t.0 t.1 t.2) stage in
        absurd (other t.0 t.1 Turns acts.0 t.2 stage (λ e. cc) acts.1)
      where
        acts_of : (u : View O) → FitsView o first rule.h u → u.stage ≡ Turns → (a : Actor) × (0 < has a u)
        acts_of u (inl e) stage = absurd (let n = ap (λ (x : View O). x.stage) e in cc)
        acts_of u (inr f) stage = f.acts stage

    known : IsView o first rule.h v
    known = live o first rule.h v Task (both Task) (rule.views.each id v at)

    resting : IsFree origin history due o rule.h s
    resting = at_rest rule.phase

    ends : IsLast origin history due v resting.value
    ends = record {
      origin_is = known.origin ∙ ap Some (sym resting.origin_is);
      seen = subst (λ (l : List Actor). StartsWith l v.seen) (sym resting.history_is) known.seen;
      heard = subst (λ (l : List Actor). StartsWith l v.heard) (sym resting.history_is) known.heard;
      counted = λ a. let e = ap (times a) known.first_is in let h = ap (times a) resting.history_is in
          omega (arith, times_own o first rule.h s.views rule.views id v a at (both a));
      legal = λ a. let e = ap (times a) resting.history_is in let d = ap (λ p. due p a) resting.origin_is in
          omega (arith, rule.legal a);
    }

  -- at the end the value is at home
  pub closes : (id : ℕ) (v : View O) (ws : List ℕ) (xs : List (Option T)) → ((a : Actor) → 0 < has a v) →
      v.stage ≡ Waits → Final (Seen Rule id v) ws xs
      → (value : T) × (get_elem? xs 0 ≡ some (Some value)) × (origin value ≡ o) × (v.first ≡ first)
      × IsLast origin history due v value
  closes id v ws xs both waits last =
      let s : Table = last.0 in
      let seen : Seen Rule id v s = last.1 in
      let q : IsFree origin history due o seen.0.h s = resting s seen.0 id v seen.1 both waits in (
        q.value,
        last.4 0 (Some q.value) (ap (λ hs. get_elem? hs 0) q.home),
        q.origin_is,
        (known s seen.0 id v seen.1 both waits).first_is,
        ends s seen.0 id v seen.1 both waits,
      )

  both_actors : (v w : View O) → v.actors ≡ Task ∷ [] → w.actors ≡ Sweep ∷ [] → (a : Actor) → 0 < has a (joined v w)
  both_actors v w is_v is_w Task = let n = ap (times Task) is_v in omega (arith, times-append Task v.actors w.actors)
  both_actors v w is_v is_w Sweep = let n = ap (times Sweep) is_w in omega (arith, times-append Sweep v.actors w.actors)

  -- where the seats of both passes were joined into one, with the view u
  pub gives_back : (id : ℕ) (u v w : View O) (ws : List ℕ) (xs : List (Option T)) (begun : T) → u ≡ joined v w →
      o ≡ origin begun → first ≡ history begun
      → v.actors ≡ Task ∷ [] → w.actors ≡ Sweep ∷ [] → v.stage ≡ Waits → made Sweep v ≡ 0 → made Task w ≡ 0
      → Final (Seen Rule id u) ws xs →
      (value : T) × (get_elem? xs 0 ≡ some (Some value)) × IsClosed origin history due begun v w value
  gives_back id u v w ws xs begun is o_is first_is is_v is_w waits none_v none_w last =
      let there : Final (Seen Rule id (joined v w)) ws xs =
      subst (λ (x : View O). Final (Seen Rule id x) ws xs) is last in
      let t = closes id (joined v w) ws xs (both_actors v w is_v is_w) waits there in
      let value : T = t.0 in
      let e : IsLast origin history due (joined v w) value = t.4 in
      let seen : StartsWith (history value) v.seen × StartsWith (history value) w.seen =
      parted (history value) v.seen w.seen e.seen e.heard in (
        value,
        t.1,
        record {
          origin_is = t.2 ∙ o_is;
          origin_seen = e.origin_is;
          first_is = t.3 ∙ first_is;
          task_seen = seen.0;
          sweep_seen = seen.1;
          tasks = (let n = ap (times Task) (t.3 ∙ first_is) in
              omega (arith, e.counted Task, times-append Task v.steps w.steps));
          sweeps = (let n = ap (times Sweep) (t.3 ∙ first_is) in
              omega (arith, e.counted Sweep, times-append Sweep v.steps w.steps));
          legal = e.legal;
        },
      )
