use Rattle.world_laws.proofs.Finishing.{finishes}
use Rattle.world_laws.proofs.ending.cycles_finish.Goals as goal

pub returns : goal.returns
returns c = finishes
