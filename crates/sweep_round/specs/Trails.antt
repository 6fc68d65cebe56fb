-- What contracts see of a trail.
use Rattle.std.specs.Prelude.{ℕ, List}
use Rattle.guards_model.specs.declared.Actor.{Actor}
use Rattle.sweep_round.specs.declared.trail.Trail.{Trail}
use Rattle.sweep_round.specs.Replay.{actors_of}

-- the cycle of its round
abbrev pub trail_cycle : Trail → ℕ
trail_cycle t = t.cycle

-- the steps of its round
abbrev pub trail_steps : Trail → List Actor
trail_steps t = actors_of t.steps.items
