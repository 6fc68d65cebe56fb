use Rattle.recovery_laws.proofs.returns.returns_take_their_time.Goals as goal

pub returns : goal.returns
returns c M L n start k q mission early run soon was there many is back =
    Rattle.recovery_laws.proofs.Restarted.returns M L n mission early run q start k soon was there many is back
