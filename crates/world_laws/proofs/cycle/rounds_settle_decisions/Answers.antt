use Rattle.world_laws.proofs.SlotsEntered.{rounds_carried}
use Rattle.world_laws.proofs.cycle.rounds_settle_decisions.Goals as goal

pub returns : goal.returns
returns c = rounds_carried
