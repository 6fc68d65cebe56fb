-- What carrying one piece to some receivers does to the log.
use Rattle.std.specs.Prelude.{◌≡◌, ℕ, List, ◌++◌, map, take}
use Rattle.std.specs.List.{AllByRecursion}
use Rattle.guards_model.specs.declared.Slot.{Slot}
use Rattle.guards_model.specs.BusRules.{RuleValue}
use Rattle.guards_model.specs.Channels.{Channel}
use Rattle.guards_model.specs.Network.{EntryValue, Log}
use Rattle.slot_traffic.specs.Pieces.{PieceValue, entry_by}

-- one piece was delivered to each receiver, and the log grew by their entries
pub record AreDelivered (may : List RuleValue → EntryValue → Type 0) (script : List RuleValue) (old new : Log)
    (c : ℕ) (slot : Slot) (from : Channel) (receivers : List ℕ) (sent : List ℕ) (pieces : List PieceValue) : Type
    0 where
  pub grew : new ≡ old ++ map (entry_by c slot from sent) pieces
  pub each : map (λ p. p.to) pieces ≡ receivers
  pub allowed : AllByRecursion (may script) (map (entry_by c slot from sent) pieces)

-- the same for the first few receivers
pub record AreSomeDelivered (may : List RuleValue → EntryValue → Type 0) (script : List RuleValue) (old new : Log)
    (c : ℕ) (slot : Slot) (from : Channel) (receivers : List ℕ) (sent : List ℕ) (pieces : List PieceValue) : Type
    0 where
  pub few : ℕ
  pub delivered : AreDelivered may script old new c slot from (take few receivers) sent pieces
