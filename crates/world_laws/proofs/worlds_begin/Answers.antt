use Rattle.world_laws.proofs.LogStands.{first_stands, is_run}
use Rattle.world_laws.proofs.worlds_begin.Goals as goal

pub returns-clause-first : goal.returns-clause-first
returns-clause-first c = first_stands

pub returns-clause-runs : goal.returns-clause-runs
returns-clause-runs c = is_run
