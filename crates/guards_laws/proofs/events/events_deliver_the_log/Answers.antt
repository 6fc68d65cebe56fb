use Rattle.guards_laws.proofs.EventDeliveries.{run_is_delivered}
use Rattle.guards_laws.proofs.events.events_deliver_the_log.Goals as goal

pub returns : goal.returns
returns c = run_is_delivered
