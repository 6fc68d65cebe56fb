use Rattle.std.proofs.Common.{length}
use Rattle.world_nodes.proofs.opening.+damage_by.Given as goal

abbrev pub decreases-damage_by : goal.decreases-damage_by
decreases-damage_by l = length l.faults.now
