use Rattle.run_laws.proofs.RunTold.{short_whole, short_stopped}
use Rattle.run_laws.proofs.short_runs_are_told.Goals as goal

pub returns-clause-whole : goal.returns-clause-whole
returns-clause-whole c = short_whole

pub returns-clause-stopped : goal.returns-clause-stopped
returns-clause-stopped c = short_stopped
