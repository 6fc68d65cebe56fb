use Rattle.recovery_laws.proofs.Bounded.{ends_within}
use Rattle.recovery_laws.proofs.Fewest.{no_fewer}
use Rattle.recovery_laws.proofs.transfers.lengths_are_bounded.Goals as goal

pub returns-clause-most : goal.returns-clause-most
returns-clause-most c M row bound mission bounded = ends_within M row bound mission bounded

pub returns-clause-fewest : goal.returns-clause-fewest
returns-clause-fewest c M row k mission h = no_fewer M row k mission h
