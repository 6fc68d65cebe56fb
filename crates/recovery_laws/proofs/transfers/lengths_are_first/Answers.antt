use Rattle.recovery_laws.proofs.Counted.{no_length}
use Rattle.recovery_laws.proofs.Endless.{first_if, length_if, none_if}
use Rattle.recovery_laws.proofs.transfers.lengths_are_first.Goals as goal

pub returns-clause-some : goal.returns-clause-some
returns-clause-some c M row k = (first_if M row k, λ first. length_if M row k first.0 first.1)

pub returns-clause-none : goal.returns-clause-none
returns-clause-none c M row = (no_length M row, none_if M row)
