use Rattle.std.proofs.Common.{refl}
use Rattle.guards_runs.proofs.RunsOnLiterals.{run_on_literals}
use Rattle.model_rows.proofs.held_nodes.nodes_of_two_cycles.Goals as goal

pub returns : goal.returns
unfolding run_on_literals
returns c = refl
