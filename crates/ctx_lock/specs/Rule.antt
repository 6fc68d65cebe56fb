-- The rule of the lock's table. Word 0 is 2 while the table has no value yet, 1 while the turn is held, and else 0.
-- Word 1 is 1 once the actor Sweep was claimed.
use Rattle.std.specs.Prelude.{◌≡◌, ℕ, ◌+◌, ◌<◌, ◌≤◌, ◌⊎◌, List, [], ◌∷◌, length, slice_index, Option, Some, None}
use mathlib.Core.Option.{some, none}
use lib.ListN.{get_elem?}
use Rattle.atomic_table.specs.Table.{State}
use Rattle.guards_model.specs.declared.Actor.{Actor}
use Rattle.guards_model.specs.declared.Actor.TheVariants.{Task, Sweep}
use Rattle.ctx_lock.specs.declared.view.Stage.TheVariants.{Opens, Turns}
use Rattle.ctx_lock.specs.declared.view.View.{View}
use Rattle.ctx_lock.specs.History.{times, StartsWith}
use Rattle.ctx_lock.specs.Views.{has, made, opens, turns, spent}

-- the weights of the items, added up
abbrev pub total : {A : Type 0} → (A → ℕ) → List A → ℕ
total f [] = 0
total f (x ∷ xs) = f x + total f xs

-- what a view that is not spent says of the origin o, of the first history, and of the history h
pub record IsView {O : Type 0} (o : O) (first h : List Actor) (v : View O) : Type 0 where
  pub origin : v.origin ≡ Some o
  pub first_is : v.first ≡ first
  pub started : StartsWith v.seen first
  pub seen : StartsWith h v.seen
  pub heard : StartsWith h v.heard
  -- it has made no steps of an actor that it does not have
  pub own : (a : Actor) → has a v ≡ 0 → made a v ≡ 0
  -- what it has seen has of its actor the steps that it made, and no others since the first history
  pub counted : (a : Actor) → 0 < has a v → times a v.seen ≡ times a first + made a v
  pub acts : v.stage ≡ Turns → (a : Actor) × (0 < has a v)

abbrev pub FitsView : {O : Type 0} → O → List Actor → List Actor → View O → Type 0
FitsView o first h v = (v ≡ spent) ⊎ IsView o first h v

-- all views: each actor stands in at most one, and h has the steps of the first history and those that the seats made
pub record AreViews {O : Type 0} (o : O) (first h : List Actor) (views : List (View O)) : Type 0 where
  pub each : (k : ℕ) (v : View O) → get_elem? views k ≡ some v → FitsView o first h v
  pub single : (a : Actor) → total (has a) views ≤ 1
  pub counted : (a : Actor) → times a h ≡ times a first + total (made a) views

module _ {T O : Type 0} (origin : T → O) (history : T → List Actor) (due : O → Actor → ℕ) where
  -- the table has no value yet: one seat, which is for Task, is to open it
  pub record IsVacant (first h : List Actor) (s : State (Option T) (View O)) : Type 0 where
    pub word : slice_index s.words 0 ≡ 2
    pub opening : total opens s.views ≡ 1
    pub turn : total turns s.views ≡ 0
    pub home : s.homes ≡ some None ∷ []
    pub same : h ≡ first
    pub task : (k : ℕ) (v : View O) → get_elem? s.views k ≡ some v → v.stage ≡ Opens → 0 < has Task v

  -- no seat has the turn, and the value is at home
  pub record IsFree (o : O) (h : List Actor) (s : State (Option T) (View O)) : Type 0 where
    pub word : slice_index s.words 0 ≡ 0
    pub opening : total opens s.views ≡ 0
    pub turn : total turns s.views ≡ 0
    pub value : T
    pub home : s.homes ≡ some (Some value) ∷ []
    pub origin_is : origin value ≡ o
    pub history_is : history value ≡ h

  -- one seat has the turn and the slot, and has seen the whole history
  pub record IsHeld (h : List Actor) (s : State (Option T) (View O)) : Type 0 where
    pub word : slice_index s.words 0 ≡ 1
    pub opening : total opens s.views ≡ 0
    pub turn : total turns s.views ≡ 1
    pub home : s.homes ≡ none ∷ []
    pub whole : (k : ℕ) (v : View O) → get_elem? s.views k ≡ some v → v.stage ≡ Turns → v.seen ≡ h

  abbrev pub Phase : O → List Actor → List Actor → State (Option T) (View O) → Type 0
  Phase o first h s = IsVacant first h s ⊎ (IsFree o h s ⊎ IsHeld h s)

  -- the rule: there is one history h, in which no actor has more steps than are due
  pub record Ordered (o : O) (first : List Actor) (s : State (Option T) (View O)) : Type 0 where
    pub h : List Actor
    pub wide : length s.words ≡ 2
    pub legal : (a : Actor) → times a h ≤ due o a
    pub views : AreViews o first h s.views
    pub unclaimed : slice_index s.words 1 ≡ 0 → total (has Sweep) s.views ≡ 0
    pub phase : Phase o first h s
