use Rattle.std.proofs.Common.{◌∷◌, ◌++◌}
use Rattle.guards_runs.specs.Cycles.{active_set, cycles_before, cycle_at}
use Rattle.node_laws.proofs.SlotNodes.{all_switched, all_ended}
use Rattle.node_laws.proofs.all_nodes.nodes_are_switched.Goals as goal

pub returns-clause-handed : goal.returns-clause-handed
returns-clause-handed c = λ M L n steps mission. all_switched M L n steps mission

pub returns-clause-after : goal.returns-clause-after
returns-clause-after c = λ M earlier current n steps carried mission.
    all_ended M (earlier ++ current) n steps
    (active_set M (cycle_at M (earlier ++ current) n ∷ cycles_before M (earlier ++ current) n)) mission
