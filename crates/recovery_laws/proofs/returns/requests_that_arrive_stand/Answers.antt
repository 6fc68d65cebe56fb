use Rattle.recovery_laws.proofs.Asked.{asks_next}
use Rattle.recovery_laws.proofs.returns.requests_that_arrive_stand.Goals as goal

pub returns : goal.returns
returns c M L n m q mission early run soon low joins alone heard new =
    asks_next M L n mission early run q m soon low joins alone heard new
