use Rattle.world_laws.proofs.BeforeWork.{comes_later}
use Rattle.world_laws.proofs.staying.steps_come_later.Goals as goal

pub returns : goal.returns
returns c = comes_later
