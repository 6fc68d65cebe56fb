-- How a round ends.
use Rattle.std.specs.Prelude.{◌≡◌, ℕ, List}
use Rattle.guards_model.specs.declared.Actor.{Actor}
use Rattle.guards_model.specs.Rounds.{context_of_replay, copies_of_replay, IsFull}
use Rattle.guards_model.specs.Tasks.{whole}
use Rattle.ctx_lock.specs.History.{times}
use Rattle.frame_pipe.specs.Pipes.{feed_name, sent}
use Rattle.sweep_round.specs.declared.start.RoundStart.{RoundStart}
use Rattle.sweep_round.specs.declared.trail.Finished.{Finished}
use Rattle.sweep_round.specs.Rounds.{start_origin}
use Rattle.sweep_round.specs.Trails.{trail_cycle, trail_steps}

-- what is left of a round that started so and has this history
pub record IsFinished (s : RoundStart) (history : List Actor) (f : Finished) : Type 0 where
  pub context_is : f.context ≡ context_of_replay (start_origin s) history
  pub copies_are : sent f.feed ≡ copies_of_replay (start_origin s) history
  pub pipe_is : feed_name f.feed ≡ s.pipe
  pub steps_are : trail_steps f.history ≡ history
  pub cycle_is : trail_cycle f.history ≡ s.cycle

-- what is left of a value after all its steps: of some last value with the same origin, whose history has all that are
-- due
pub record IsEndOf {T O : Type 0} (origin : T → O) (history : T → List Actor) (due : O → Actor → ℕ)
    (finished : T → Finished → Type 0) (value : T) (f : Finished) : Type 0 where
  pub last : T
  pub origin_is : origin last ≡ origin value
  pub full : (a : Actor) → times a (history last) ≡ due (origin value) a
  pub finished_is : finished last f

-- A round that started so has ended: its trail has all steps, the context is the whole row's effect, and the copies are
-- the replay of the trail.
pub record IsEnded (s : RoundStart) (f : Finished) : Type 0 where
  pub full : IsFull (start_origin s) (trail_steps f.history)
  pub context_is : f.context
      ≡ whole (start_origin s).row (start_origin s).context (start_origin s).cycle (start_origin s).inputs
  pub copies_are : sent f.feed ≡ copies_of_replay (start_origin s) (trail_steps f.history)
  pub pipe_is : feed_name f.feed ≡ s.pipe
  pub cycle_is : trail_cycle f.history ≡ s.cycle
