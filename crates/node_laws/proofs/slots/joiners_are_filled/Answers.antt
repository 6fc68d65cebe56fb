use Rattle.std.proofs.Common.{refl}
use Rattle.node_laws.proofs.slots.joiners_are_filled.Goals as goal

pub returns-clause-sweep : goal.returns-clause-sweep
returns-clause-sweep c = λ M past e q. refl

pub returns-clause-last_copies : goal.returns-clause-last_copies
returns-clause-last_copies c = λ M past e q. refl

pub returns-clause-switches : goal.returns-clause-switches
returns-clause-switches c = λ M past e q. refl
