use Rattle.guards_runs.specs.Cycles.{cycles_before}
use Rattle.node_laws.proofs.Opening.{opens}
use Rattle.node_laws.proofs.cycle.nodes_open_cycles.Goals as goal

pub returns : goal.returns
returns c = λ M L n steps q state low h. opens M L (cycles_before M L n) steps q low state h
