use Rattle.std.proofs.Common.{arith}
use Rattle.world_laws.proofs.SlotKept.{rounds_later, vote_later}
use Rattle.world_laws.proofs.staying.decisions_stay.Goals as goal

pub returns-clause-rounds : goal.returns-clause-rounds
returns-clause-rounds c = λ M L new n late. rounds_later M L new n 4 late (omega arith)

pub returns-clause-vote : goal.returns-clause-vote
returns-clause-vote c = λ M L new n late. vote_later M L new n 6 late (omega arith)
