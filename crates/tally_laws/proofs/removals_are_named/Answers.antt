use Rattle.tally_laws.proofs.Unnamed.{none_false}
use Rattle.tally_laws.proofs.removals_are_named.Goals as goal

pub returns : goal.returns
returns c = λ M L n mission early run scripted. none_false M L n mission early run scripted
