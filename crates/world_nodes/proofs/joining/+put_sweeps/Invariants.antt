use Rattle.std.proofs.Common.{length}
use Rattle.world_nodes.proofs.joining.+put_sweeps.Given as goal

abbrev pub decreases-put_sweeps : goal.decreases-put_sweeps
decreases-put_sweeps g l = length l.channels.now
