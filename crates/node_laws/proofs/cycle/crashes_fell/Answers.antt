use Rattle.guards_runs.specs.Cycles.{cycles_before}
use Rattle.node_laws.proofs.Ending.{falls, falls_first}
use Rattle.node_laws.proofs.cycle.crashes_fell.Goals as goal

pub returns-clause-first : goal.returns-clause-first
returns-clause-first c = λ M L n steps q low. falls_first M L (cycles_before M L n) steps q low

pub returns-clause-later : goal.returns-clause-later
returns-clause-later c = λ M L n steps before slot done q low soon on.
    falls M L (cycles_before M L n) steps q low before slot done soon on
