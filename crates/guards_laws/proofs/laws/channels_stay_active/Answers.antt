use Rattle.guards_laws.proofs.StayActive.{three_active, joined_passive}
use Rattle.guards_laws.proofs.OnlyRise.{up_active}
use Rattle.guards_laws.proofs.laws.channels_stay_active.Goals as goal

pub returns-clause-three : goal.returns-clause-three
returns-clause-three c = λ M L n mission. three_active M L mission n

pub returns-clause-up_is_active : goal.returns-clause-up_is_active
returns-clause-up_is_active c = λ M L n q mission h. up_active M L mission n q h

pub returns-clause-joined_was_passive : goal.returns-clause-joined_was_passive
returns-clause-joined_was_passive c = joined_passive
