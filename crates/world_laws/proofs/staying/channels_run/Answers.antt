use Rattle.world_laws.proofs.Running.{one_runs}
use Rattle.world_laws.proofs.staying.channels_run.Goals as goal

pub returns : goal.returns
returns c = one_runs
