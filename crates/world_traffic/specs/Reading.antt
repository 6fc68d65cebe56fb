-- What arrived in a slot, by sender and receiver: the bodies that count.
use Rattle.guards_model.specs.Network.{counted_body}
use Rattle.slot_traffic.specs.Pieces.{ArrivedValue}
use Rattle.guards_world.specs.NodeLists.{Bodies}

abbrev pub got_of : ArrivedValue → Bodies
got_of a from to = counted_body a.format a.traffic.entries a.traffic.cycle a.traffic.slot from to
