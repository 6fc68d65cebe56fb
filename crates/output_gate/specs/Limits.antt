-- What is known of a limiter that is kept.
use Rattle.std.specs.Prelude.{◌≡◌, ℤ, pos, ◌≤ℤ◌}
use Rattle.native_calls.specs.Operation.{IsWord}
use Rattle.guards_model.specs.Actuators.{limited}

-- On all triples of words whose step is at least 0 the closure may be called, and answers the last word moved towards
-- the wanted one.
pub record LimitsBy (pre : ℤ → ℤ → ℤ → Type 0) (post : ℤ → ℤ → ℤ → ℤ → Type 0) : Type 0 where
  pub callable : (last wanted step : ℤ) → IsWord last → IsWord wanted → IsWord step → pos 0 ≤ℤ step →
      pre last wanted step
  pub answers : (last wanted step r : ℤ) → IsWord last → IsWord wanted → IsWord step → pos 0 ≤ℤ step →
      post last wanted step r → r ≡ limited last wanted step
