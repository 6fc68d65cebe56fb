-- What is known of a closure that is kept.
use Rattle.std.specs.Prelude.{◌≡◌, ◌-◌, ◌^◌, ℤ, pos, negsuc, ◌≤ℤ◌}
use Rattle.guards_model.specs.declared.Code.{Code}
use Rattle.guards_model.specs.Natives.{native}

-- a value of the type i64, from -2^63 to 2^63 - 1
abbrev pub IsWord : ℤ → Type 0
IsWord z = (negsuc (2 ^ 63 - 1) ≤ℤ z) × (z ≤ℤ pos (2 ^ 63 - 1))

-- On all triples of words the closure may be called, and answers the operation of the code.
pub record Computes (code : Code) (pre : ℤ → ℤ → ℤ → Type 0) (post : ℤ → ℤ → ℤ → ℤ → Type 0) : Type 0 where
  pub callable : (a b c : ℤ) → IsWord a → IsWord b → IsWord c → pre a b c
  pub answers : (a b c r : ℤ) → IsWord a → IsWord b → IsWord c → post a b c r → r ≡ native code a b c
