-- What contracts see of the actuator's gate. This project's own.
use Rattle.std.specs.Prelude.{ℕ, ℤ, List, map, Option, None}
use Rattle.guards_model.specs.Channels.{place_or, numbers_below}
use Rattle.guards_model.specs.Contexts.{word_of}
use Rattle.guards_model.specs.Actuators.{moved}

-- a step and a word for each output
pub record GateValue : Type 0 where
  pub steps : List ℤ
  pub words : List ℤ

-- the words, each moved towards the wanted one in its place
abbrev pub moved_towards : List ℤ → List ℤ → List (Option ℤ) → ℕ → List ℤ
moved_towards steps last wanted outputs =
    map (λ k. moved (word_of steps k) (word_of last k) (place_or wanted k None)) (numbers_below outputs)
