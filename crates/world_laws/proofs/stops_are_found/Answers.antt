use Rattle.world_laws.proofs.LedgerFollows.{disturbed_are, stop_is}
use Rattle.world_laws.proofs.stops_are_found.Goals as goal

pub returns-clause-disturbed : goal.returns-clause-disturbed
returns-clause-disturbed c =
    λ M L n slot charged mission are_charged. disturbed_are M L n mission slot charged are_charged

pub returns-clause-halts : goal.returns-clause-halts
returns-clause-halts c = λ M L n slot charged mission are_charged. stop_is M L n mission slot charged are_charged
