-- Winning, losing and releasing the turn keeps the rule.
use Rattle.std.proofs.Common.{◌≡◌, ℕ, ◌+◌, ◌<◌, ◌≤◌, ◌≢◌, ◌⊎◌, ◌==◌, List, [], ◌∷◌, ◌++◌, length, drop, set, get_or, sym, refl, ap, ◌∙◌, subst, inl, inr, arith, Option, Some, length-set, get_or-set_same, get_or-set_other}
use Rattle.std.proofs.lemmas.List.{set-get_or, append-nil}
use Rattle.std.proofs.Math.Seq.{drop-append_seam}
use mathlib.Core.Option.{some, none}
use lib.ListN.{get_elem?}
use prog.Atomic.{either}
use Rattle.atomic_table.specs.Table.{State, Act, keeps, takes, gives, Valid, stepped, carried_after, step, Allows}
use Rattle.atomic_table.proofs.Lists.{at_set, set_again, exchanged}
use Rattle.guards_model.specs.declared.Actor.{Actor}
use Rattle.guards_model.specs.declared.Actor.TheVariants.{Task, Sweep}
use Rattle.ctx_lock.specs.declared.view.Stage.TheVariants.{Waits, Turns}
use Rattle.ctx_lock.specs.declared.view.View.{View}
use Rattle.ctx_lock.specs.History.{one_if, times, StartsWith}
use Rattle.ctx_lock.specs.Views.{has, made, opens, turns, opening_weight, turn_weight, winner, released}
use Rattle.ctx_lock.specs.Rule.{total, IsView, IsFree, IsHeld, Phase, Ordered}
use Rattle.ctx_lock.specs.Plays.{Sat, IsFound, wins, Grown, releases}
use Rattle.ctx_lock.proofs.Totals.{total-set, term_le}
use Rattle.ctx_lock.proofs.Histories.{times-append, starts_same, starts_trans}
use Rattle.ctx_lock.proofs.Viewing.{live, born, times_own, views_set, same_actors}

module _ {T O : Type 0} (origin : T → O) (history : T → List Actor) (due : O → Actor → ℕ) (o : O)
    (first : List Actor) where
  abbrev Table : Type 0
  Table = State (Option T) (View O)

  abbrev Rule : Table → Type 0
  Rule = Ordered origin history due o first

  -- a change of word 0 leaves word 1
  pub other_word : (ws : List ℕ) (n : ℕ) → get_or (set ws 0 n) 1 0 ≡ get_or ws 1 0
  other_word ws n = get_or-set_other ws 0 1 n 0 (λ e. omega arith)

  -- the seat's turn is the one turn
  pub held : (h : List Actor) (s : Table) (id : ℕ) (v : View O) → get_elem? s.views id ≡ some v → v.stage ≡ Turns →
      Phase origin history due o first h s → IsHeld origin history due h s
  held h s id v at turn (inl p) = let one : turns v ≡ 1 = ap turn_weight turn in
      absurd (omega (arith, term_le turns s.views id v at, p.turn))
  held h s id v at turn (inr (inl p)) = let one : turns v ≡ 1 = ap turn_weight turn in
      absurd (omega (arith, term_le turns s.views id v at, p.turn))
  held h s id v at turn (inr (inr p)) = p

  -- where the word is 0 the value is at home
  pub free : (h : List Actor) (s : Table) → get_or s.words 0 0 ≡ 0 → Phase origin history due o first h s →
      IsFree origin history due o h s
  free h s zero (inl p) = let two : get_or s.words 0 0 ≡ 2 = p.word in absurd (omega arith)
  free h s zero (inr (inl p)) = p
  free h s zero (inr (inr p)) = let one : get_or s.words 0 0 ≡ 1 = p.word in absurd (omega arith)

  -- no seat but the one that took the turn has it
  only_turn : (views : List (View O)) (id : ℕ) (w : View O) (h : List Actor) → total turns views ≡ 0 → w.seen ≡ h
      → (k : ℕ) (u : View O) → get_elem? (set views id w) k ≡ some u → u.stage ≡ Turns → u.seen ≡ h
  only_turn views id w h untaken is k u at turn =
      elim (at_set views id k w u at) [
        | inl t ↦ subst (λ (x : View O). x.seen ≡ h) t.1 is
        | inr t ↦ let one : turns u ≡ 1 = ap turn_weight turn in absurd (omega (arith, term_le turns views k u t.1))
      ]

  module _ (s : Table) (rule : Rule s) (id : ℕ) (v : View O) (at : get_elem? s.views id ≡ some v) where
    abbrev Wins : ℕ → Type 0
    Wins n = (w : View O) × (act : Act (Option T)) × Valid s.homes [] act × Rule (stepped s 0 n id [] w act)
        × wins origin history due (step 1 0 0 1 none) (v, []) (get_or s.words 0 0) (w, carried_after [] act)

    loses : get_or s.words 0 0 ≢ 0 → Wins (get_or s.words 0 0)
    loses taken =
        let same : s ≡ stepped s 0 (get_or s.words 0 0) id [] v keeps =
        λ i. record {
          words = sym (set-get_or s.words 0 0) i;
          homes = s.homes;
          views = sym (set_again s.views id v at) i;
        } in
        (v, keeps, tt, subst Rule same rule, ((λ zero. absurd (taken zero)), (λ _. refl)))

    module _ (a : Actor) (some_has : 0 < has a v) (waits : v.stage ≡ Waits)
        (is_free : IsFree origin history due o rule.h s) where
      abbrev y : T
      y = is_free.value

      abbrev w : View O
      w = winner (history y) v

      view : IsView o first rule.h v
      view = live o first rule.h v a some_has (rule.views.each id v at)

      same_history : rule.h ≡ history y
      same_history = sym is_free.history_is

      counts_own : (b : Actor) → 0 < has b v → times b (history y) ≡ times b first + made b v
      counts_own b some_b = ap (times b) is_free.history_is
          ∙ times_own o first rule.h s.views rule.views id v b at some_b

      won_view : IsView o first rule.h w
      won_view = record {
        origin = view.origin;
        first_is = view.first_is;
        started = subst (λ (l : List Actor). StartsWith l first) same_history
            (starts_trans first v.seen rule.h view.seen view.started);
        seen = subst (λ (l : List Actor). StartsWith rule.h l) same_history (starts_same rule.h);
        heard = view.heard;
        own = view.own;
        counted = counts_own;
        acts = λ _. (a, some_has);
      }

      won_held : IsHeld origin history due rule.h (stepped s 0 1 id [] w (takes 0 (Some y)))
      won_held = record {
        word = get_or-set_same s.words 0 1 0 (let n = rule.wide in omega arith);
        opening = (let e : opens v ≡ 0 = ap opening_weight waits in
            omega (arith, total-set opens s.views id v w at, is_free.opening));
        turn = (let e : turns v ≡ 0 = ap turn_weight waits in
            omega (arith, total-set turns s.views id v w at, is_free.turn));
        home = ap (λ hs. set hs 0 none) is_free.home;
        whole = only_turn s.views id w rule.h is_free.turn is_free.history_is;
      }

      found : IsFound origin history due v y
      found = record {
        origin_is = view.origin ∙ ap Some (sym is_free.origin_is);
        seen = subst (λ (l : List Actor). StartsWith l v.seen) same_history view.seen;
        same = λ b some_b. counts_own b some_b ∙ sym (view.counted b some_b);
        counted = λ b some_b. let e = ap (times b) view.first_is in omega (arith, counts_own b some_b);
        legal = λ b. let e = ap (times b) is_free.history_is in let d = ap (λ p. due p b) is_free.origin_is in
            omega (arith, rule.legal b);
      }

      won : Wins 1
      won = (
        w,
        takes 0 (Some y),
        ap (λ hs. get_elem? hs 0) is_free.home,
        record {
          h = rule.h;
          wide = length-set s.words 0 1 ∙ rule.wide;
          legal = rule.legal;
          views = views_set o first rule.h s.views rule.views rule.h id v w at (starts_same rule.h) (inr won_view)
              (λ b. same_actors o first rule.h s.views rule.views id v w b at refl) (λ b. refl);
          unclaimed = λ zero. (let t = total-set (has Sweep) s.views id v w at in
              omega (arith, rule.unclaimed (sym (other_word s.words 1) ∙ zero)));
          phase = inr (inr won_held);
        },
        ((λ _. (y, found, refl)), (λ taken. absurd (taken is_free.word))),
      )

  -- asking for the turn
  pub wins_turn : (slots id : ℕ) (m : Sat T O) (v : View O) (a : Actor) → m ≡ (v, []) → 0 < has a v → v.stage ≡ Waits
      → Allows Rule slots id m 0 (λ n. either (n == 0) 1 n) (wins origin history due (step slots 0 0 1 none) m)
  wins_turn slots id m v a is some_has waits =
      subst (λ (x : Sat T O). Allows Rule slots id x 0 (λ n. either (n == 0) 1 n)
      (wins origin history due (step slots 0 0 1 none) x)) (sym is)
      (λ s rule wide at fits. exchanged (get_or s.words 0 0) 0 1 (Wins s rule id v at)
      (λ zero. won s rule id v at a some_has waits (free rule.h s zero rule.phase))
      (λ taken. loses s rule id v at taken))

  -- what the seat's value has more than the seat has seen
  record Adds (h : List Actor) (v : View O) (y : T) : Type 0 where
    rest : List Actor
    is : history y ≡ v.seen ++ rest
    own : (b : Actor) → has b v ≡ 0 → times b rest ≡ 0
    legal : (b : Actor) → times b (history y) ≤ due o b

  one_or_same : (a b : Actor) → (one_if b a ≡ 0) ⊎ (a ≡ b)
  one_or_same Task Task = inr refl
  one_or_same Task Sweep = inl refl
  one_or_same Sweep Task = inl refl
  one_or_same Sweep Sweep = inr refl

  one_le : (a b : Actor) → one_if b a ≤ 1
  one_le Task Task = omega arith
  one_le Task Sweep = omega arith
  one_le Sweep Task = omega arith
  one_le Sweep Sweep = omega arith

  adds : (h : List Actor) (v : View O) (y : T) → v.seen ≡ h → origin y ≡ o → ((b : Actor) → times b h ≤ due o b) →
      Grown origin history due v y → Adds h v y
  adds h v y whole is legal (inl e) = record {
    rest = [];
    is = e ∙ sym (append-nil v.seen);
    own = λ b none. refl;
    legal = λ b. (let t = ap (times b) (e ∙ whole) in omega (arith, legal b));
  }
  adds h v y whole is legal (inr t) = record {
    rest = t.0 ∷ [];
    is = t.2;
    own = λ b no. elim (one_or_same t.0 b) [
      | inl z ↦ omega (arith, z)
      | inr e ↦ let some_has : 0 < has t.0 v = t.1 in let same : has t.0 v ≡ has b v = ap (λ c. has c v) e in
          absurd (omega arith)
    ];
    legal = λ b. (let n = ap (times b) t.2 in let m = ap (times b) whole in let more =
        times-append b v.seen (t.0 ∷ []) in elim (one_or_same t.0 b) [
          | inl z ↦ omega (arith, legal b, z)
          | inr e ↦
              let room : times t.0 v.seen < due (origin y) t.0 = t.3 in
              let there : times b v.seen < due o b =
              subst (λ c. times c v.seen < due o c) e (subst (λ p. times t.0 v.seen < due p t.0) is room) in
              omega (arith, one_le t.0 b)
        ]);
  }

  module _ (s : Table) (rule : Rule s) (id : ℕ) (v : View O) (at : get_elem? s.views id ≡ some v) (y : T)
      (turn : v.stage ≡ Turns) (is : v.origin ≡ Some (origin y)) (growth : Grown origin history due v y) where
    abbrev r : View O
    r = released (history y) v

    now : IsHeld origin history due rule.h s
    now = held rule.h s id v at turn rule.phase

    known : IsView o first rule.h v
    known = born o first rule.h v (origin y) is (rule.views.each id v at)

    from : origin y ≡ o
    from = (let e = sym is ∙ known.origin in cc)

    whole : v.seen ≡ rule.h
    whole = now.whole id v at turn

    more : Adds rule.h v y
    more = adds rule.h v y whole from rule.legal growth

    past : drop (length v.seen) (history y) ≡ more.rest
    past = ap (drop (length v.seen)) more.is ∙ drop-append_seam v.seen more.rest

    longer_history : StartsWith (history y) rule.h
    longer_history = (more.rest, more.is ∙ ap (λ l. l ++ more.rest) whole)

    counts_steps : (b : Actor) → made b r ≡ made b v + times b more.rest
    counts_steps b = times-append b v.steps (drop (length v.seen) (history y)) ∙ ap (λ l. made b v + times b l) past

    counts_history : (b : Actor) → times b (history y) ≡ times b v.seen + times b more.rest
    counts_history b = ap (times b) more.is ∙ times-append b v.seen more.rest

    rested_view : IsView o first (history y) r
    rested_view = record {
      origin = known.origin;
      first_is = known.first_is;
      started = starts_trans first v.seen (history y) (more.rest, more.is) known.started;
      seen = starts_same (history y);
      heard = starts_trans v.heard rule.h (history y) longer_history known.heard;
      own = λ b no. omega (arith, counts_steps b, known.own b no, more.own b no);
      counted = λ b some_b. omega (arith, counts_steps b, counts_history b, known.counted b some_b);
      acts = λ e. absurd (cc);
    }

    rested : Rule (stepped s 0 0 id ((0, Some y) ∷ []) r gives)
    rested = record {
      h = history y;
      wide = length-set s.words 0 0 ∙ rule.wide;
      legal = more.legal;
      views = views_set o first rule.h s.views rule.views (history y) id v r at longer_history (inr rested_view)
          (λ b. same_actors o first rule.h s.views rule.views id v r b at refl)
          (λ b. let e = ap (times b) whole in omega (arith, counts_steps b, counts_history b));
      unclaimed = λ zero. (let t = total-set (has Sweep) s.views id v r at in
          omega (arith, rule.unclaimed (sym (other_word s.words 0) ∙ zero)));
      phase = inr (inl record {
        word = get_or-set_same s.words 0 0 0 (let n = rule.wide in omega arith);
        opening = (let e : opens v ≡ 0 = ap opening_weight turn in
            omega (arith, total-set opens s.views id v r at, now.opening));
        turn = (let e : turns v ≡ 1 = ap turn_weight turn in
            omega (arith, total-set turns s.views id v r at, now.turn));
        value = y;
        home = ap (λ hs. set hs 0 (some (Some y))) now.home;
        origin_is = from;
        history_is = refl;
      });
    }

  -- giving the turn back
  pub releases_turn : (slots id : ℕ) (m : Sat T O) (v : View O) (y : T) → m ≡ (v, (0, Some y) ∷ []) → v.stage ≡ Turns →
      v.origin ≡ Some (origin y) → Grown origin history due v y
      → Allows Rule slots id m 0 (λ _. 0) (releases origin history due (step slots 0 0 0 none) m)
  releases_turn slots id m v y is turn from_origin growth =
      subst (λ (x : Sat T O). Allows Rule slots id x 0 (λ _. 0) (releases origin history due (step slots 0 0 0 none) x))
      (sym is)
      (λ s rule wide at fits. (
        r s rule id v at y turn from_origin growth,
        gives,
        tt,
        rested s rule id v at y turn from_origin growth,
        λ z e.
            let pair : ◌≡◌ {A = ℕ × Option T} (0, Some y) (0, Some z) = cc in
            let here : Some y ≡ Some z = ap (λ (p : ℕ × Option T). p.1) pair in
            let same : y ≡ z = cc in
            ap (λ (x : T). (released (history x) v, [])) same,
      ))
