-- A step that leaves the turn where it is keeps the table's phase.
use Rattle.std.proofs.Common.{◌≡◌, ℕ, List, get_or, sym, ap, ◌∙◌, inl, inr, Option}
use mathlib.Core.Option.{some}
use lib.ListN.{get_elem?}
use Rattle.atomic_table.specs.Table.{State}
use Rattle.guards_model.specs.declared.Actor.{Actor}
use Rattle.ctx_lock.specs.declared.view.Stage.{Stage}
use Rattle.ctx_lock.specs.declared.view.Stage.TheVariants.{Waits, Opens, Turns}
use Rattle.ctx_lock.specs.declared.view.View.{View}
use Rattle.ctx_lock.specs.Views.{opens, turns}
use Rattle.ctx_lock.specs.Rule.{total, Phase}

module _ {O : Type 0} where
  pub stage_of : (v w : View O) (stage : Stage) → v.stage ≡ Waits → v ≡ w → w.stage ≡ stage → ¬ (Waits ≡ stage) → ⊥
  stage_of v w stage waits same is ne = ne (sym waits ∙ (ap (λ (x : View O). x.stage) same ∙ is))

module _ {T O : Type 0} where
  -- a step that leaves word 0, the slot, and the seats that open the table or have the turn
  pub record Leaves (s s' : State (Option T) (View O)) : Type 0 where
    pub word : get_or s'.words 0 0 ≡ get_or s.words 0 0
    pub homes : s'.homes ≡ s.homes
    pub opening : total opens s'.views ≡ total opens s.views
    pub turn : total turns s'.views ≡ total turns s.views
    pub active : (stage : Stage) → ¬ (Waits ≡ stage) → (k : ℕ) (u : View O) → u.stage ≡ stage →
        get_elem? s'.views k ≡ some u → get_elem? s.views k ≡ some u

module _ {T O : Type 0} (origin : T → O) (history : T → List Actor) (due : O → Actor → ℕ) (o : O)
    (first : List Actor) where
  pub same_phase : (h : List Actor) (s s' : State (Option T) (View O)) → Leaves s s' →
      Phase origin history due o first h s → Phase origin history due o first h s'
  same_phase h s s' l (inl q) = inl record {
    word = l.word ∙ q.word;
    opening = l.opening ∙ q.opening;
    turn = l.turn ∙ q.turn;
    home = l.homes ∙ q.home;
    same = q.same;
    task = λ k u e stage. q.task k u (l.active Opens (λ n. cc) k u stage e) stage;
  }
  same_phase h s s' l (inr (inl q)) = inr (inl record {
    word = l.word ∙ q.word;
    opening = l.opening ∙ q.opening;
    turn = l.turn ∙ q.turn;
    value = q.value;
    home = l.homes ∙ q.home;
    origin_is = q.origin_is;
    history_is = q.history_is;
  })
  same_phase h s s' l (inr (inr q)) = inr (inr record {
    word = l.word ∙ q.word;
    opening = l.opening ∙ q.opening;
    turn = l.turn ∙ q.turn;
    home = l.homes ∙ q.home;
    whole = λ k u e stage. q.whole k u (l.active Turns (λ n. cc) k u stage e) stage;
  })
