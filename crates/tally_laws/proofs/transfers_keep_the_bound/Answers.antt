use Rattle.tally_laws.proofs.Lengths.{keeps_bound}
use Rattle.tally_laws.proofs.transfers_keep_the_bound.Goals as goal

pub returns : goal.returns
returns c = keeps_bound
