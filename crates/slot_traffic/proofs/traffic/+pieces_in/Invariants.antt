use Rattle.std.proofs.Common.{length}
use Rattle.slot_traffic.proofs.traffic.+pieces_in.Given as goal

abbrev pub decreases-pieces_in : goal.decreases-pieces_in
decreases-pieces_in l = length l.parcels.now
