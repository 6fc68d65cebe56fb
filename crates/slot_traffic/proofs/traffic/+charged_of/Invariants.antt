use Rattle.std.proofs.Common.{length}
use Rattle.slot_traffic.proofs.traffic.+charged_of.Given as goal

abbrev pub decreases-charged_of : goal.decreases-charged_of
decreases-charged_of l = length l.parcels.now
