use Rattle.guards_runs.specs.Cycles.{cycles_before}
use Rattle.node_laws.proofs.Hearing.{hears}
use Rattle.node_laws.proofs.slots.requests_are_heard.Goals as goal

pub returns : goal.returns
returns c = λ M L n steps q low. hears M L (cycles_before M L n) steps q low
