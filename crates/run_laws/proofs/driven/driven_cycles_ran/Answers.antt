use Rattle.run_laws.proofs.Driving.{driven_ran, driven_short}
use Rattle.run_laws.proofs.driven.driven_cycles_ran.Goals as goal

pub returns-clause-whole : goal.returns-clause-whole
returns-clause-whole g c = driven_ran g.B.Bus.may

pub returns-clause-broken : goal.returns-clause-broken
returns-clause-broken g c = driven_short g.B.Bus.may
