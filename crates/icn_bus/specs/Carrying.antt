-- What a carry does to the log.
use Rattle.std.specs.Prelude.{◌≡◌, ℕ, List, [], ◌∷◌, ◌++◌, Option}
use Rattle.guards_model.specs.declared.Slot.{Slot}
use Rattle.guards_model.specs.BusRules.{RuleValue}
use Rattle.guards_model.specs.Network.{EntryValue, Log}

abbrev pub carried_entry : ℕ → Slot → ℕ → ℕ → List ℕ → Option (List ℕ) → EntryValue
carried_entry cycle slot from to sent answer =
    record { cycle = cycle; slot = slot; from = from; to = to; sent = sent; delivered = answer }

-- the log grew by just this carry, as the bus may make it under its script
pub record Adds (may : List RuleValue → EntryValue → Type 0) (script : List RuleValue) (old new : Log)
    (cycle : ℕ) (slot : Slot) (from to : ℕ) (sent : List ℕ) (answer : Option (List ℕ)) : Type 0 where
  pub grew : new ≡ old ++ carried_entry cycle slot from to sent answer ∷ []
  pub allowed : may script (carried_entry cycle slot from to sent answer)
