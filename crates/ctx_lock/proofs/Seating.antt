-- Making a lock, splitting a seat, claiming Sweep and opening the table keeps the rule.
use Rattle.std.proofs.Common.{◌≡◌, ℕ, zero, suc, ◌+◌, ◌<◌, ◌≤◌, List, [], ◌∷◌, ◌++◌, set, get_or, sym, refl, ap, ◌∙◌, subst, inl, inr, arith, Option, Some, None, length-set, get_or-set_same, get_or-set_other}
use mathlib.Core.Logic.{dite}
use native.Mathlib.Decide.{ℕ_discrete}
use mathlib.Core.Option.{some, none, some-injective}
use lib.ListN.{get_elem?}
use Rattle.atomic_table.specs.Table.{State, keeps, takes, stepped, step, opening, Allows, Splits}
use Rattle.atomic_table.proofs.Lists.{at_set, at_snoc, set_again}
use Rattle.guards_model.specs.declared.Actor.{Actor}
use Rattle.guards_model.specs.declared.Actor.TheVariants.{Task, Sweep}
use Rattle.ctx_lock.specs.declared.view.Stage.TheVariants.{Waits, Opens, Turns}
use Rattle.ctx_lock.specs.declared.view.View.{View}
use Rattle.ctx_lock.specs.History.{times, StartsWith}
use Rattle.ctx_lock.specs.Views.{has, made, opens, turns, opening_weight, turn_weight, opener, novice, sweeper, opened}
use Rattle.ctx_lock.specs.Rule.{total, IsView, FitsView, AreViews, IsVacant, Phase, Ordered}
use Rattle.ctx_lock.specs.Plays.{Sat, claims, opens_up}
use Rattle.ctx_lock.proofs.Totals.{total-set, total-append, term_le, nothing}
use Rattle.ctx_lock.proofs.Histories.{times_mono, starts_same, starts_none, starts_whole}
use Rattle.ctx_lock.proofs.Viewing.{born, own_of, views_set, views_more, same_actors}
use Rattle.ctx_lock.proofs.Turning.{other_word}
use Rattle.ctx_lock.proofs.Leaving.{Leaves, same_phase, stage_of}

module _ {T O : Type 0} (origin : T → O) (history : T → List Actor) (due : O → Actor → ℕ) (o : O)
    (first : List Actor) where
  abbrev Table : Type 0
  Table = State (Option T) (View O)

  abbrev Rule : Table → Type 0
  Rule = Ordered origin history due o first

  -- the table as it is made
  at_first_view : (k : ℕ) (v : View O) → get_elem? (opener o first ∷ []) k ≡ some v → opener o first ≡ v
  at_first_view zero v e = some-injective _ v e
  at_first_view (suc k) v e = absurd (cc)

  first_is_view : IsView o first first (opener o first)
  first_is_view = record {
    origin = refl;
    first_is = refl;
    started = starts_same first;
    seen = starts_same first;
    heard = starts_none first;
    own = λ a no. refl;
    counted = λ a some_a. omega arith;
    acts = λ e. absurd (cc);
  }

  one_actor : (a : Actor) → times a (Task ∷ []) ≤ 1
  one_actor Task = omega arith
  one_actor Sweep = omega arith

  pub made_first : ((a : Actor) → times a first ≤ due o a) → Rule (opening (2 ∷ 0 ∷ []) (None ∷ []) (opener o first))
  made_first legal = record {
    h = first;
    wide = refl;
    legal = legal;
    views = record {
      each = λ k v e. subst (λ (x : View O). FitsView o first first x) (at_first_view k v e) (inr first_is_view);
      single = λ a. omega (arith, one_actor a);
      counted = λ a. omega arith;
    };
    unclaimed = λ zero. refl;
    phase = inl record {
      word = refl;
      opening = refl;
      turn = refl;
      home = refl;
      same = refl;
      task = λ k v e opening. subst (λ (x : View O). 0 < has Task x) (at_first_view k v e) (omega arith);
    };
  }

  -- splitting a seat
  module _ (s : Table) (rule : Rule s) (id : ℕ) (v : View O) (p : O) (is : v.origin ≡ Some p)
      (at : get_elem? s.views id ≡ some v) where
    old : IsView o first rule.h v
    old = born o first rule.h v p is (rule.views.each id v at)

    new_view : IsView o first rule.h (novice v)
    new_view = record {
      origin = old.origin;
      first_is = old.first_is;
      started = old.started;
      seen = old.seen;
      heard = starts_none rule.h;
      own = λ a no. refl;
      counted = λ a some_a. absurd (omega arith);
      acts = λ e. absurd (cc);
    }

    abbrev grew : Table
    grew = record { words = s.words; homes = s.homes; views = s.views ++ novice v ∷ [] }

    split_leaves : Leaves s grew
    split_leaves = record {
      word = refl;
      homes = refl;
      opening = omega (arith, total-append opens s.views (novice v ∷ []));
      turn = omega (arith, total-append turns s.views (novice v ∷ []));
      active = λ stage ne k u is e.
          elim (at_snoc s.views (novice v) u k e)
          [ inl there ↦ there | inr same ↦ absurd (stage_of (novice v) u stage refl same is ne) ];
    }

    split_rule : Rule grew
    split_rule = record {
      h = rule.h;
      wide = rule.wide;
      legal = rule.legal;
      views = views_more o first rule.h s.views rule.views (novice v) new_view (λ a. refl);
      unclaimed = λ zero. omega (arith, total-append (has Sweep) s.views (novice v ∷ []), rule.unclaimed zero);
      phase = same_phase origin history due o first rule.h s grew split_leaves rule.phase;
    }

  pub splits : (id : ℕ) (v : View O) (p : O) → v.origin ≡ Some p → Splits Rule id v v (novice v)
  splits id v p is s rule at =
      subst (λ (views : List (View O)).
      Rule record { words = s.words; homes = s.homes; views = views ++ novice v ∷ [] })
      (sym (set_again s.views id v at)) (split_rule s rule id v p is at)

  -- claiming Sweep
  module _ (s : Table) (rule : Rule s) (id : ℕ) (v : View O) (p : O) (is : v.origin ≡ Some p) (waits : v.stage ≡ Waits)
      (at : get_elem? s.views id ≡ some v) where
    known : IsView o first rule.h v
    known = born o first rule.h v p is (rule.views.each id v at)

    claim_leaves : (w : View O) → w.stage ≡ Waits → Leaves s (stepped s 1 1 id [] w keeps)
    claim_leaves w rests =
        let same = waits ∙ sym rests in record {
          word = get_or-set_other s.words 1 0 1 0 (λ e. omega arith);
          homes = refl;
          opening = (let e = ap opening_weight same in omega (arith, total-set opens s.views id v w at));
          turn = (let e = ap turn_weight same in omega (arith, total-set turns s.views id v w at));
          active = λ stage ne k u is e.
              elim (at_set s.views id k w u e) [ inl t ↦ absurd (stage_of w u stage rests t.1 is ne) | inr t ↦ t.1 ];
        }

    one_word : get_or (set s.words 1 1) 1 0 ≡ 1
    one_word = get_or-set_same s.words 1 1 0 (let n = rule.wide in omega arith)

    abbrev Claims : View O → Type 0
    Claims w = Rule (stepped s 1 1 id [] w keeps)

    claim_again : Claims v
    claim_again = record {
      h = rule.h;
      wide = length-set s.words 1 1 ∙ rule.wide;
      legal = rule.legal;
      views = subst (λ (views : List (View O)). AreViews o first rule.h views) (sym (set_again s.views id v at))
          rule.views;
      unclaimed = λ zero. absurd (omega (arith, one_word));
      phase = same_phase origin history due o first rule.h s (stepped s 1 1 id [] v keeps) (claim_leaves v waits)
          rule.phase;
    }

    module _ (unclaimed : get_or s.words 1 0 ≡ 0) where
      nobody : total (has Sweep) s.views ≡ 0
      nobody = rule.unclaimed unclaimed

      not_mine : has Sweep v ≡ 0
      not_mine = omega (arith, nobody, term_le (has Sweep) s.views id v at)

      -- Sweep has made no step yet
      no_steps : times Sweep rule.h ≡ times Sweep first
      no_steps = omega (
        arith,
        rule.views.counted Sweep,
        nothing (made Sweep) (has Sweep) s.views nobody
            (λ j u d. own_of o first rule.h u Sweep (rule.views.each j u d)),
      )

      seen_none : times Sweep v.seen ≡ times Sweep first
      seen_none = omega (
        arith,
        times_mono Sweep v.seen rule.h known.seen,
        times_mono Sweep first v.seen known.started,
        no_steps,
      )

      sweep_own : (a : Actor) → has a (sweeper v) ≡ 0 → made a v ≡ 0
      sweep_own Task lacks = known.own Task (omega arith)
      sweep_own Sweep lacks = absurd (omega arith)

      sweep_counted : (a : Actor) → 0 < has a (sweeper v) → times a v.seen ≡ times a first + made a v
      sweep_counted Task some_has = known.counted Task (omega arith)
      sweep_counted Sweep some_has = omega (arith, seen_none, known.own Sweep not_mine)

      sweep_single : (a : Actor) → total (has a) (set s.views id (sweeper v)) ≤ 1
      sweep_single Task = same_actors o first rule.h s.views rule.views id v (sweeper v) Task at (omega arith)
      sweep_single Sweep = omega (arith, total-set (has Sweep) s.views id v (sweeper v) at, nobody, not_mine)

      claim_view : IsView o first rule.h (sweeper v)
      claim_view = record {
        origin = known.origin;
        first_is = known.first_is;
        started = known.started;
        seen = known.seen;
        heard = known.heard;
        own = sweep_own;
        counted = sweep_counted;
        acts = λ e. absurd (let n = sym e ∙ waits in cc);
      }

      claim_first : Claims (sweeper v)
      claim_first = record {
        h = rule.h;
        wide = length-set s.words 1 1 ∙ rule.wide;
        legal = rule.legal;
        views = views_set o first rule.h s.views rule.views rule.h id v (sweeper v) at (starts_same rule.h)
            (inr claim_view) sweep_single (λ a. refl);
        unclaimed = λ zero. absurd (omega (arith, one_word));
        phase = same_phase origin history due o first rule.h s (stepped s 1 1 id [] (sweeper v) keeps)
            (claim_leaves (sweeper v) waits) rule.phase;
      }

  pub claims_sweep : (slots id : ℕ) (m : Sat T O) (v : View O) (p : O) → m ≡ (v, []) → v.origin ≡ Some p →
      v.stage ≡ Waits → Allows Rule slots id m 1 (λ _. 1) (claims (step slots 1 1 0 none) m)
  claims_sweep slots id m v p is from waits =
      subst (λ (x : Sat T O). Allows Rule slots id x 1 (λ _. 1) (claims (step slots 1 1 0 none) x)) (sym is)
      (λ s rule wide at fits. dite (ℕ_discrete (get_or s.words 1 0) 0)
      (λ zero. (
        sweeper v,
        keeps,
        tt,
        claim_first s rule id v p from waits at zero,
        ((λ _. refl), (λ more. absurd (more zero))),
      ))
      (λ more. (v, keeps, tt, claim_again s rule id v p from waits at, ((λ zero. absurd (more zero)), (λ _. refl)))))

  -- opening the table
  module _ (s : Table) (rule : Rule s) (id : ℕ) (v : View O) (p : O) (is : v.origin ≡ Some p) (stage : v.stage ≡ Opens)
      (at : get_elem? s.views id ≡ some v) where
    pub vacant : Phase origin history due o first rule.h s → IsVacant origin history due first rule.h s
    vacant (inl q) = q
    vacant (inr (inl q)) = let one : opens v ≡ 1 = ap opening_weight stage in
        absurd (omega (arith, term_le opens s.views id v at, q.opening))
    vacant (inr (inr q)) = let one : opens v ≡ 1 = ap opening_weight stage in
        absurd (omega (arith, term_le opens s.views id v at, q.opening))

    was : IsVacant origin history due first rule.h s
    was = vacant rule.phase

    told : IsView o first rule.h v
    told = born o first rule.h v p is (rule.views.each id v at)

    saw_first : v.seen ≡ rule.h
    saw_first = sym (starts_whole first v.seen told.started
        (subst (λ (l : List Actor). StartsWith l v.seen) was.same told.seen)) ∙ sym was.same

    open_view : IsView o first rule.h (opened v)
    open_view = record {
      origin = told.origin;
      first_is = told.first_is;
      started = told.started;
      seen = told.seen;
      heard = told.heard;
      own = told.own;
      counted = told.counted;
      acts = λ _. (Task, was.task id v at stage);
    }

    open_whole : (k : ℕ) (u : View O) → get_elem? (set s.views id (opened v)) k ≡ some u → u.stage ≡ Turns →
        u.seen ≡ rule.h
    open_whole k u e turn = elim (at_set s.views id k (opened v) u e) [
      | inl t ↦ subst (λ (x : View O). x.seen ≡ rule.h) t.1 saw_first
      | inr t ↦ let one : turns u ≡ 1 = ap turn_weight turn in
          absurd (omega (arith, term_le turns s.views k u t.1, was.turn))
    ]

    open_rule : Rule (stepped s 0 1 id [] (opened v) (takes 0 None))
    open_rule = record {
      h = rule.h;
      wide = length-set s.words 0 1 ∙ rule.wide;
      legal = rule.legal;
      views = views_set o first rule.h s.views rule.views rule.h id v (opened v) at (starts_same rule.h) (inr open_view)
          (λ a. same_actors o first rule.h s.views rule.views id v (opened v) a at refl) (λ a. refl);
      unclaimed = λ zero. (let t = total-set (has Sweep) s.views id v (opened v) at in
          omega (arith, rule.unclaimed (sym (other_word origin history due o first s.words 1) ∙ zero)));
      phase = inr (inr record {
        word = get_or-set_same s.words 0 1 0 (let n = rule.wide in omega arith);
        opening = (let e : opens v ≡ 1 = ap opening_weight stage in
            omega (arith, total-set opens s.views id v (opened v) at, was.opening));
        turn = (let e : turns v ≡ 0 = ap turn_weight stage in
            omega (arith, total-set turns s.views id v (opened v) at, was.turn));
        home = ap (λ hs. set hs 0 none) was.home;
        whole = open_whole;
      });
    }

  pub opens_table : (slots id : ℕ) (m : Sat T O) (v : View O) (p : O) → m ≡ (v, []) → v.origin ≡ Some p →
      v.stage ≡ Opens → Allows Rule slots id m 0 (λ _. 1) (opens_up (step slots 0 1 0 none) m)
  opens_table slots id m v p is from stage =
      subst (λ (x : Sat T O). Allows Rule slots id x 0 (λ _. 1) (opens_up (step slots 0 1 0 none) x)) (sym is)
      (λ s rule wide at fits. (
        opened v,
        takes 0 None,
        ap (λ hs. get_elem? hs 0) (was s rule id v p from stage at).home,
        open_rule s rule id v p from stage at,
        refl,
      ))
