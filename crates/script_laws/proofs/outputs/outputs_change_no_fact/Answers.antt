use Rattle.script_laws.proofs.OutputsApart.{facts_apart, cycle_apart, stop_at_apart, stops_apart}
use Rattle.script_laws.proofs.outputs.outputs_change_no_fact.Goals as goal

pub returns-clause-facts : goal.returns-clause-facts
returns-clause-facts c = facts_apart

pub returns-clause-cycle : goal.returns-clause-cycle
returns-clause-cycle c = cycle_apart

pub returns-clause-stop : goal.returns-clause-stop
returns-clause-stop c = stop_at_apart

pub returns-clause-stops : goal.returns-clause-stops
returns-clause-stops c = stops_apart
