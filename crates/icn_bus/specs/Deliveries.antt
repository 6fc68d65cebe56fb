-- What was delivered of a piece, as a bus answers it beside what was sent.
use Rattle.std.specs.Prelude.{ℕ, List, Option, Some, None}
use Rattle.icn_bus.specs.declared.bus.Delivery.{Delivery}
use Rattle.icn_bus.specs.declared.bus.Delivery.TheVariants.{AsSent, Lost, Other}

abbrev pub delivery_value : List ℕ → Delivery → Option (List ℕ)
delivery_value sent AsSent = Some sent
delivery_value sent Lost = None
delivery_value sent (Other piece) = Some piece.items
