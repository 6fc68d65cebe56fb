-- What contracts say of a lock and of its passes.
use Rattle.std.specs.Prelude.{◌≡◌, ℕ, ◌+◌, List, [], Some}
use Rattle.guards_model.specs.declared.Actor.{Actor}
use Rattle.ctx_lock.specs.declared.view.View.{View}
use Rattle.ctx_lock.specs.declared.shared.Shared.{Shared}
use Rattle.ctx_lock.specs.declared.shared.Pass.{Pass}
use Rattle.ctx_lock.specs.declared.shared.Laid.{Laid}
use Rattle.ctx_lock.specs.declared.shared.Closed.{Closed}
use Rattle.guards_model.specs.declared.Actor.TheVariants.{Sweep}
use Rattle.ctx_lock.specs.History.{times}
use Rattle.ctx_lock.specs.Views.{made, opener}
use Rattle.ctx_lock.specs.Passes.{starter, IsSameView}

module _ {T O : Type 0} where
  -- the value that the lock was made for
  abbrev pub begun : Shared T O → T
  begun s = s.table.shared.key.value

  -- the actor whose steps the pass makes
  abbrev pub actor_of : {g : _} → Pass T O g → Actor
  actor_of p = p.actor

  -- what the pass knows
  abbrev pub view : {g : _} → Pass T O g → View O
  view p = p.seat.me.0

  -- the pass is this lock's
  abbrev pub IsPassOf : {g : _} → Shared T O → Pass T O g → Type 0
  IsPassOf s p = p.seat.table_id ≡ s.table.shared.table_id

  abbrev pub IsSamePass : {g : _} → Pass T O g → Pass T O g → Type 0
  IsSamePass old new = (new.seat.table_id ≡ old.seat.table_id) × (actor_of new ≡ actor_of old)

  -- the value that came out of the lock
  abbrev pub closed_value : Closed T O → T
  closed_value c = c.value

  -- the value that its lock was made for
  abbrev pub closed_from : Closed T O → T
  closed_from c = begun c.lock.value

  -- a table with no value yet, whose two seats are for Task and for Sweep
  pub record IsLaid (origin : T → O) (history : T → List Actor) (value : T) (laid : Laid T O) : Type 0 where
    pub begun : laid.table.shared.key.value ≡ value
    pub opener_of : laid.opener.table_id ≡ laid.table.shared.table_id
    pub opener_is : laid.opener.me ≡ (opener (origin value) (history value), [])
    pub sweeper_of : laid.sweeper.table_id ≡ laid.table.shared.table_id
    pub sweeper_is : laid.sweeper.me ≡ (starter Sweep (origin value) (history value), [])

  -- a worker has made all steps that were due of its pass
  pub record IsWorkedOut {g : _} (due : O → Actor → ℕ) (before after : Pass T O g) : Type 0 where
    pub pass : IsSamePass before after
    pub same : IsSameView (view before) (view after)
    pub full : (o : O) → (view before).origin ≡ Some o →
        times (actor_of before) (view before).first + made (actor_of before) (view after) ≡ due o (actor_of before)
