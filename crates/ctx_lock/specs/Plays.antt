-- What each step on the lock's table tells: of the step, the seat before, the number found and the seat after.
use Rattle.std.specs.Prelude.{◌≡◌, ◌≢◌, ℕ, ◌+◌, ◌<◌, ◌≤◌, ◌⊎◌, List, [], ◌∷◌, ◌++◌, Option, Some, None}
use Rattle.atomic_table.specs.Table.{Me, Step}
use Rattle.guards_model.specs.declared.Actor.{Actor}
use Rattle.ctx_lock.specs.declared.view.View.{View}
use Rattle.ctx_lock.specs.History.{times, StartsWith}
use Rattle.ctx_lock.specs.Views.{has, made, winner, released, sweeper, opened}

abbrev pub Sat : Type 0 → Type 0 → Type 0
Sat T O = Me (Option T) (View O)

module _ {T O : Type 0} (origin : T → O) (history : T → List Actor) (due : O → Actor → ℕ) where
  -- what a seat with the view v knows of the value that it finds: of its own actor there are no steps but its own
  pub record IsFound (v : View O) (value : T) : Type 0 where
    pub origin_is : v.origin ≡ Some (origin value)
    pub seen : StartsWith (history value) v.seen
    pub same : (a : Actor) → 0 < has a v → times a (history value) ≡ times a v.seen
    pub counted : (a : Actor) → 0 < has a v → times a (history value) ≡ times a v.first + made a v
    pub legal : (a : Actor) → times a (history value) ≤ due (origin value) a

  abbrev pub Took : Sat T O → Sat T O → Type 0
  Took m n = (value : T) × IsFound m.0 value × (n ≡ (winner (history value) m.0, (0, Some value) ∷ m.1))

  abbrev pub wins : Step (Option T) → Sat T O → ℕ → Sat T O → Type 0
  wins st m r n = (r ≡ 0 → Took m n) × (r ≢ 0 → n ≡ m)

  -- the value that is given back: its history is what the seat has seen, or has one step more of the seat's actor
  abbrev pub Grown : View O → T → Type 0
  Grown v value = (history value ≡ v.seen)
      ⊎ ((a : Actor) × (0 < has a v) × (history value ≡ v.seen ++ a ∷ []) × (times a v.seen < due (origin value) a))

  abbrev pub releases : Step (Option T) → Sat T O → ℕ → Sat T O → Type 0
  releases st m r n = (value : T) → m.1 ≡ (0, Some value) ∷ [] → n ≡ (released (history value) m.0, [])

module _ {T O : Type 0} where
  abbrev pub claims : Step (Option T) → Sat T O → ℕ → Sat T O → Type 0
  claims st m r n = (r ≡ 0 → n ≡ (sweeper m.0, m.1)) × (r ≢ 0 → n ≡ m)

  abbrev pub opens_up : Step (Option T) → Sat T O → ℕ → Sat T O → Type 0
  opens_up st m r n = n ≡ (opened m.0, (0, None) ∷ m.1)

module _ {T O : Type 0} (origin : T → O) (history : T → List Actor) (due : O → Actor → ℕ) where
  -- what a seat that has both actors, with the view v, knows of the value at the end
  pub record IsLast (v : View O) (value : T) : Type 0 where
    pub origin_is : v.origin ≡ Some (origin value)
    pub seen : StartsWith (history value) v.seen
    pub heard : StartsWith (history value) v.heard
    pub counted : (a : Actor) → times a (history value) ≡ times a v.first + made a v
    pub legal : (a : Actor) → times a (history value) ≤ due (origin value) a
