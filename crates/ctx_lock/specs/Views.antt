-- The views of the lock's seats, and how each kind of step changes one.
use Rattle.std.specs.Prelude.{ℕ, List, [], ◌∷◌, ◌++◌, length, drop, nat_le, if◌then◌else◌, Some, None}
use Rattle.guards_model.specs.declared.Actor.{Actor}
use Rattle.guards_model.specs.declared.Actor.TheVariants.{Task, Sweep}
use Rattle.ctx_lock.specs.declared.view.Stage.{Stage}
use Rattle.ctx_lock.specs.declared.view.Stage.TheVariants.{Waits, Opens, Turns}
use Rattle.ctx_lock.specs.declared.view.View.{View}
use Rattle.ctx_lock.specs.History.{times}

abbrev pub opening_weight : Stage → ℕ
opening_weight Waits = 0
opening_weight Opens = 1
opening_weight Turns = 0

abbrev pub turn_weight : Stage → ℕ
turn_weight Waits = 0
turn_weight Opens = 0
turn_weight Turns = 1

abbrev pub longer : List Actor → List Actor → List Actor
longer xs ys = if nat_le (length xs) (length ys) then ys else xs

abbrev pub shorter : List Actor → List Actor → List Actor
shorter xs ys = if nat_le (length xs) (length ys) then xs else ys

module _ {O : Type 0} where
  -- 1 where the seat is for the actor, and else 0
  abbrev pub has : Actor → View O → ℕ
  has a v = times a v.actors

  -- how many steps of the actor the seat has made
  abbrev pub made : Actor → View O → ℕ
  made a v = times a v.steps

  abbrev pub opens : View O → ℕ
  opens v = opening_weight v.stage

  abbrev pub turns : View O → ℕ
  turns v = turn_weight v.stage

  abbrev pub spent : View O
  spent = record { origin = None; first = []; seen = []; heard = []; actors = []; steps = []; stage = Waits }

  -- the first seat, which is to put the value into the table
  abbrev pub opener : O → List Actor → View O
  opener o first = record {
    origin = Some o;
    first = first;
    seen = first;
    heard = [];
    actors = Task ∷ [];
    steps = [];
    stage = Opens;
  }

  -- a seat that was split from v
  abbrev pub novice : View O → View O
  novice v = record {
    origin = v.origin;
    first = v.first;
    seen = v.seen;
    heard = [];
    actors = [];
    steps = [];
    stage = Waits;
  }

  abbrev pub sweeper : View O → View O
  sweeper v = record v { actors = Sweep ∷ v.actors }

  -- it got the turn without looking at the history
  abbrev pub opened : View O → View O
  opened v = record v { stage = Turns }

  -- it won the turn, and found the history h
  abbrev pub winner : List Actor → View O → View O
  winner h v = record v { seen = h; stage = Turns }

  -- it gives the turn back and leaves the history h: what h has more is its own
  abbrev pub released : List Actor → View O → View O
  released h v = record v { seen = h; steps = v.steps ++ drop (length v.seen) h; stage = Waits }

  abbrev pub joined : View O → View O → View O
  joined v w = record v {
    seen = longer v.seen w.seen;
    heard = shorter v.seen w.seen;
    actors = v.actors ++ w.actors;
    steps = v.steps ++ w.steps;
  }
