use Rattle.node_laws.proofs.OfRound.{of_round}
use Rattle.node_laws.proofs.arrivals.rounds_arrive.Goals as goal

pub returns : goal.returns
returns c = of_round
