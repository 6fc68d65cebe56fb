-- What a pass knows, and what a step changes of it.
use Rattle.std.specs.Prelude.{◌≡◌, ℕ, ◌+◌, ◌<◌, ◌≤◌, List, [], ◌∷◌, ◌++◌, Some}
use Rattle.guards_model.specs.declared.Actor.{Actor}
use Rattle.guards_model.specs.declared.Actor.TheVariants.{Task, Sweep}
use Rattle.ctx_lock.specs.declared.view.Stage.TheVariants.{Waits}
use Rattle.ctx_lock.specs.declared.view.View.{View}
use Rattle.ctx_lock.specs.History.{one_if, times, StartsWith}
use Rattle.ctx_lock.specs.Views.{made}

-- the steps are all of the actor, and so many
pub record AreStepsOf (actor : Actor) (number : ℕ) (steps : List Actor) : Type 0 where
  pub count : number ≡ times actor steps
  pub alone : (a : Actor) → one_if a actor ≡ 0 → times a steps ≡ 0

module _ {O : Type 0} where
  -- the view of a pass that has made no step, of the origin o and the history first
  abbrev pub starter : Actor → O → List Actor → View O
  starter a o first = record {
    origin = Some o;
    first = first;
    seen = first;
    heard = [];
    actors = a ∷ [];
    steps = [];
    stage = Waits;
  }

  -- what does not change of a pass
  pub record IsSameView (v w : View O) : Type 0 where
    pub origin : w.origin ≡ v.origin
    pub first : w.first ≡ v.first
    pub actors : w.actors ≡ v.actors

  -- a step was made: what is seen is what was seen, then steps of the other actor alone, then the step, which is one
  -- more of the pass's own
  pub record IsNext (due : O → Actor → ℕ) (actor : Actor) (v w : View O) : Type 0 where
    pub between : List Actor
    pub others : times actor between ≡ 0
    pub seen : w.seen ≡ (v.seen ++ between) ++ actor ∷ []
    pub count : made actor w ≡ made actor v + 1
    pub origin : (o : O) × (v.origin ≡ Some o)
    pub room : (o : O) → v.origin ≡ Some o → times actor v.first + made actor v < due o actor

  -- no step was made, since all that are due were
  pub record IsDone (due : O → Actor → ℕ) (actor : Actor) (v w : View O) : Type 0 where
    pub seen : StartsWith w.seen v.seen
    pub count : made actor w ≡ made actor v
    pub origin : (o : O) × (v.origin ≡ Some o)
    pub full : (o : O) → v.origin ≡ Some o → times actor v.first + made actor v ≡ due o actor

-- The value that comes out of a lock that was made for the value begun, where Task's pass had the view v and Sweep's
-- pass w: its history goes on what they had seen, and has their steps and no others
pub record IsClosed {T O : Type 0} (origin : T → O) (history : T → List Actor) (due : O → Actor → ℕ) (begun : T)
    (v w : View O) (value : T) : Type 0 where
  pub origin_is : origin value ≡ origin begun
  pub origin_seen : v.origin ≡ Some (origin value)
  pub first_is : v.first ≡ history begun
  pub task_seen : StartsWith (history value) v.seen
  pub sweep_seen : StartsWith (history value) w.seen
  pub tasks : times Task (history value) ≡ times Task (history begun) + made Task v
  pub sweeps : times Sweep (history value) ≡ times Sweep (history begun) + made Sweep w
  pub legal : (a : Actor) → times a (history value) ≤ due (origin value) a
