use Rattle.run_laws.proofs.RunTold.{whole_text, stopped_text}
use Rattle.run_laws.proofs.runs_are_told.Goals as goal

pub returns-clause-whole : goal.returns-clause-whole
returns-clause-whole c = whole_text

pub returns-clause-stopped : goal.returns-clause-stopped
returns-clause-stopped c = stopped_text
