use Rattle.run_laws.proofs.RanCycles.{ran_diagnoses, stopped_diagnoses}
use Rattle.run_laws.proofs.diagnosed.runs_diagnose_rightly.Goals as goal

pub returns-clause-ran : goal.returns-clause-ran
returns-clause-ran c = ran_diagnoses

pub returns-clause-stopped : goal.returns-clause-stopped
returns-clause-stopped c = stopped_diagnoses
