use Rattle.world_laws.proofs.Finishing.{runs_out}
use Rattle.world_laws.proofs.ending.cycles_run_out.Goals as goal

pub returns : goal.returns
returns c = runs_out
