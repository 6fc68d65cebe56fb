use Rattle.recovery_laws.proofs.WrongVotes.{damaged_is_judged, wrong_is_judged, judged_exactly}
use Rattle.recovery_laws.proofs.DamagedVotes.{sent_wrong}
use Rattle.recovery_laws.proofs.diagnosis.wrong_votes_are_judged.Goals as goal

pub returns-clause-reaches : goal.returns-clause-reaches
returns-clause-reaches c M L n m q mission early run soon there sends =
    sent_wrong M L n mission early run m soon q there sends

pub returns-clause-damaged : goal.returns-clause-damaged
returns-clause-damaged c M L n m q mission early run soon was there marked wrong =
    damaged_is_judged M L n mission early run m soon q was there wrong marked

pub returns-clause-judged : goal.returns-clause-judged
returns-clause-judged c M L n m q mission early run soon was there either wrong =
    wrong_is_judged M L n mission early run m soon q was there wrong either

pub returns-clause-exactly : goal.returns-clause-exactly
returns-clause-exactly c M L n m q mission early run soon = judged_exactly M L n mission early run m soon q
