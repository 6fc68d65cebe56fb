use Rattle.run_laws.proofs.RunContinues.{stop_breaks_off}
use Rattle.run_laws.proofs.RunPassed.{ran_cycles}
use Rattle.run_laws.proofs.cycles_ran.Goals as goal

pub returns-clause-whole : goal.returns-clause-whole
returns-clause-whole g c = λ M start bus w F L histories at. ran_cycles g.B.Bus.may start bus w F L histories M at

pub returns-clause-stopped : goal.returns-clause-stopped
returns-clause-stopped g c = stop_breaks_off
