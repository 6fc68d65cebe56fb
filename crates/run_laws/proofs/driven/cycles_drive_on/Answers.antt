use Rattle.run_laws.proofs.Driving.{drives_finished, drives_halted}
use Rattle.run_laws.proofs.driven.cycles_drive_on.Goals as goal

pub returns-clause-finished : goal.returns-clause-finished
returns-clause-finished g c = drives_finished g.B.Bus.may

pub returns-clause-halted : goal.returns-clause-halted
returns-clause-halted g c = drives_halted g.B.Bus.may
