use Rattle.world_laws.proofs.LogStands.{world_goes_on}
use Rattle.world_laws.proofs.cycle.worlds_go_on.Goals as goal

pub returns : goal.returns
returns c = world_goes_on
