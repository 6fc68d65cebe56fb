use Rattle.run_laws.proofs.Ends.{text_whole, text_stopped}
use Rattle.run_laws.proofs.driven.driven_runs_are_told.Goals as goal

pub returns-clause-whole : goal.returns-clause-whole
returns-clause-whole c = text_whole

pub returns-clause-stopped : goal.returns-clause-stopped
returns-clause-stopped c = text_stopped
