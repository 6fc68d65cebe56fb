use Rattle.node_laws.proofs.Hearing.{receives, none_received}
use Rattle.node_laws.proofs.slots.exchanges_are_received.Goals as goal

pub returns-clause-round : goal.returns-clause-round
returns-clause-round c = λ M past e q round some there. receives M past e q round some there

pub returns-clause-none : goal.returns-clause-none
returns-clause-none c = λ M past e q round absent. none_received M past e q round absent
