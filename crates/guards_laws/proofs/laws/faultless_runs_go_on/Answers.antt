use Rattle.guards_laws.proofs.NoFaults.{faultless_run, faultless_slots}
use Rattle.guards_laws.proofs.laws.faultless_runs_go_on.Goals as goal

pub returns-clause-cycles : goal.returns-clause-cycles
returns-clause-cycles c = faultless_run

pub returns-clause-slots : goal.returns-clause-slots
returns-clause-slots c = faultless_slots
