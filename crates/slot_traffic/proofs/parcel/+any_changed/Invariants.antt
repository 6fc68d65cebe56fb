use Rattle.std.proofs.Common.{length}
use Rattle.slot_traffic.proofs.parcel.+any_changed.Given as goal

abbrev pub decreases-any_changed : goal.decreases-any_changed
decreases-any_changed l = length l.pieces.now
