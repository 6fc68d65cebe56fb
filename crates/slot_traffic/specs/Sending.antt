-- What sending does to the log and to the traffic of a slot. This project's own.
use Rattle.std.specs.Prelude.{◌≡◌, ℕ, List, [], ◌∷◌, ◌++◌, length, map, take}
use Rattle.std.specs.List.{AllZip, AllByRecursion}
use Rattle.guards_model.specs.declared.Slot.{Slot}
use Rattle.guards_model.specs.BusRules.{RuleValue}
use Rattle.guards_model.specs.Channels.{Channel, without}
use Rattle.guards_model.specs.Network.{EntryValue, Log, TrafficValue}
use Rattle.guards_runs.specs.Due.{Carry, IsCarryOf}

-- the carries of a sender to these receivers, none to itself
abbrev pub carries_from : ℕ → Slot → Channel → List ℕ → List Carry
carries_from c slot from receivers =
    map (λ to. record { cycle = c; slot = slot; from = from; to = to }) (without receivers (from ∷ []))

-- The log grew by one entry for each of these carries, in order, each with these bytes and as the bus may make it.
pub record AreCarried (may : List RuleValue → EntryValue → Type 0) (script : List RuleValue) (old new : Log)
    (sent : List ℕ) (carries : List Carry) (now : Log) : Type 0 where
  pub grew : new ≡ old ++ now
  pub each : AllZip (IsCarryOf sent) carries now
  pub allowed : AllByRecursion (may script) now

-- these were carried, and the traffic grew by the same entries
pub record SendsFrame (may : List RuleValue → EntryValue → Type 0) (script : List RuleValue) (old new : Log)
    (sent : List ℕ) (carries : List Carry) (before after : TrafficValue) : Type 0 where
  pub now : Log
  pub carried : AreCarried may script old new sent carries now
  pub traffic : after ≡ record { cycle = before.cycle; slot = before.slot; entries = before.entries ++ now }

-- the first few of these were carried, and the traffic grew by the same entries
pub record SendsFirstOfFrame (may : List RuleValue → EntryValue → Type 0) (script : List RuleValue) (old new : Log)
    (sent : List ℕ) (carries : List Carry) (before after : TrafficValue) : Type 0 where
  pub now : Log
  pub carried : AreCarried may script old new sent (take (length now) carries) now
  pub traffic : after ≡ record { cycle = before.cycle; slot = before.slot; entries = before.entries ++ now }
