use Rattle.mission_laws.proofs.WholeMission.{read_missions}
use Rattle.mission_laws.proofs.missions_that_are_read.Goals as goal

pub returns : goal.returns
returns c = read_missions
