use Rattle.world_laws.proofs.Finishing.{stops}
use Rattle.world_laws.proofs.ending.cycles_stop.Goals as goal

pub returns : goal.returns
returns c = stops
