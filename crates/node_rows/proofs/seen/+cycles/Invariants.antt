use Rattle.std.proofs.Common.{length}
use Rattle.node_rows.proofs.seen.+cycles.Given as goal

abbrev pub decreases-cycles : goal.decreases-cycles
decreases-cycles g l = length l.told.now
