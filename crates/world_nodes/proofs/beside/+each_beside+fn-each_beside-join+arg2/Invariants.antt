use Rattle.std.proofs.Common.{length, ◌+◌, ◌*◌}
use Rattle.world_nodes.proofs.beside.+each_beside+fn-each_beside-join+arg2.Given as goal

-- each call has one item less, and the closure stands between two calls
abbrev pub decreases-each_beside : goal.decreases-each_beside
decreases-each_beside g l = 2 * length l.items.items

abbrev pub decreases-join+arg2 : goal.decreases-join+arg2
decreases-join+arg2 g l = 2 * length l.items.items + 1
