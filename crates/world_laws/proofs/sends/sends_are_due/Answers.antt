use Rattle.world_laws.proofs.Sending.{nodes_stand, nodes_may_send, sent_whole, sent_few}
use Rattle.world_laws.proofs.sends.sends_are_due.Goals as goal

pub returns-clause-stands : goal.returns-clause-stands
returns-clause-stands c = nodes_stand

pub returns-clause-may_send : goal.returns-clause-may_send
returns-clause-may_send c = nodes_may_send

pub returns-clause-whole : goal.returns-clause-whole
returns-clause-whole c = sent_whole

pub returns-clause-some : goal.returns-clause-some
returns-clause-some c = sent_few
