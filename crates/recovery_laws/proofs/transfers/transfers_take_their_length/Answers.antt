use Rattle.recovery_laws.proofs.LengthTold.{each_takes}
use Rattle.recovery_laws.proofs.transfers.transfers_take_their_length.Goals as goal

pub returns : goal.returns
returns c M L n mission few = each_takes M L mission n few
