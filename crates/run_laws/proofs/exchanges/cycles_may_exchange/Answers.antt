use Rattle.run_laws.proofs.MayExchange.{may_exchange, votes_for}
use Rattle.run_laws.proofs.exchanges.cycles_may_exchange.Goals as goal

pub returns-clause-allowed : goal.returns-clause-allowed
returns-clause-allowed c = may_exchange

pub returns-clause-votes : goal.returns-clause-votes
returns-clause-votes c = votes_for
