use Rattle.std.proofs.Common.{length}
use Rattle.slot_traffic.proofs.parcel.+goes_to.Given as goal

abbrev pub decreases-goes_to : goal.decreases-goes_to
decreases-goes_to l = length l.pieces.now
