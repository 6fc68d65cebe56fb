use Rattle.guards_runs.specs.Cycles.{cycles_before}
use Rattle.world_laws.proofs.LedgerFollows.{begins, enters, goes_on, ends}
use Rattle.world_laws.proofs.ledger_follows.Goals as goal

pub returns-clause-joins : goal.returns-clause-joins
returns-clause-joins c = λ M L n q low. begins M L (cycles_before M L n) q low

pub returns-clause-enters : goal.returns-clause-enters
returns-clause-enters c = λ M L n. enters M L (cycles_before M L n)

pub returns-clause-goes_on : goal.returns-clause-goes_on
returns-clause-goes_on c = λ M L n before slot soon on. goes_on M L (cycles_before M L n) before slot soon on

pub returns-clause-ends : goal.returns-clause-ends
returns-clause-ends c = λ M L n on taken are_on are_taken. ends M L (cycles_before M L n) on taken are_on are_taken
