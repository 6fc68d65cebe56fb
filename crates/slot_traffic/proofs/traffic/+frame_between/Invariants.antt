use Rattle.std.proofs.Common.{length}
use Rattle.slot_traffic.proofs.traffic.+frame_between.Given as goal

abbrev pub decreases-frame_between : goal.decreases-frame_between
decreases-frame_between l = length l.parcels.now
