use Rattle.std.proofs.Common.{length}
use Rattle.slot_traffic.proofs.parcel.+first_frame.Given as goal

abbrev pub decreases-first_frame : goal.decreases-first_frame
decreases-first_frame l = length l.pieces.now
