use Rattle.run_laws.proofs.RanCycles.{ran_is_run, stopped_is_run}
use Rattle.run_laws.proofs.diagnosed.cycles_that_ran_are_runs.Goals as goal

pub returns-clause-ran : goal.returns-clause-ran
returns-clause-ran c = ran_is_run

pub returns-clause-stopped : goal.returns-clause-stopped
returns-clause-stopped c = stopped_is_run
