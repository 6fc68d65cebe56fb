-- What an act of the code means.
use Rattle.icn_bus.specs.declared.bus.Act.{Act}
use Rattle.icn_bus.specs.declared.bus.Act.TheVariants.{Lose, Forge}
use Rattle.guards_model.specs.BusRules.{ActValue, lose, forge}

abbrev pub act_value : Act → ActValue
act_value Lose = lose
act_value (Forge piece) = forge piece.items
