use Rattle.tally_laws.proofs.Lengths.{longest_is}
use Rattle.tally_laws.proofs.transfers_have_their_length.Goals as goal

pub returns : goal.returns
returns c = λ M L n mission few. longest_is M L mission n few
