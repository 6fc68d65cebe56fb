-- What a round has come to, by its history.
use Rattle.std.specs.Prelude.{◌≡◌, ◌≤◌, ℕ, ℤ, List, length, map}
use Rattle.guards_model.specs.declared.Actor.{Actor}
use Rattle.guards_model.specs.Contexts.{ContextValue}
use Rattle.guards_model.specs.Frames.{CopyValue}
use Rattle.guards_model.specs.Records.{actor_of_step}
use Rattle.guards_model.specs.Rounds.{Origin, context_of_replay, copies_of_replay}
use Rattle.ctx_lock.specs.History.{times}
use Rattle.guards_model.specs.declared.Actor.TheVariants.{Task, Sweep}
use Rattle.task_table.specs.Tables.{TableValue, table_writes}

-- the origin of a round of a cycle: its context, the writes of the cycle's row, the inputs and the plan
abbrev pub origin_of : ContextValue → TableValue → ℕ → List ℤ → List ℕ → Origin
origin_of context table cycle inputs plan =
    record { context = context; row = table_writes table cycle; cycle = cycle; inputs = inputs; plan = plan }

-- the actors of steps that are written as numbers
abbrev pub actors_of : List ℕ → List Actor
actors_of steps = map actor_of_step steps

-- the context and the copies are the replay of the history
pub record IsReplay (o : Origin) (history : List Actor) (context : ContextValue) (copies : List CopyValue) : Type
    0 where
  pub context_is : context ≡ context_of_replay o history
  pub copies_are : copies ≡ copies_of_replay o history

-- so many writes and copies were made, and no more than there are
pub record AreMade (o : Origin) (history : List Actor) (writes copies : ℕ) : Type 0 where
  pub writes_are : writes ≡ times Task history
  pub copies_are : copies ≡ times Sweep history
  pub few_writes : writes ≤ length o.row
  pub few_copies : copies ≤ length o.plan
