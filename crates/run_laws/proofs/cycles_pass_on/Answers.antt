use Rattle.run_laws.proofs.RunPassed.{passes_on}
use Rattle.run_laws.proofs.cycles_pass_on.Goals as goal

pub returns : goal.returns
returns g c = λ M start bus w F L histories result new after at below cycled no_further.
    passes_on g.B.Bus.may start bus w F L histories M result new after at below cycled no_further
