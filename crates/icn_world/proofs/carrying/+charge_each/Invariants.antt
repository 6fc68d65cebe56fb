use Rattle.std.proofs.Common.{length}
use Rattle.icn_world.proofs.carrying.+charge_each.Given as goal

abbrev pub decreases-charge_each : goal.decreases-charge_each
decreases-charge_each l = length l.channels.now
