use Rattle.recovery_laws.proofs.Counted.{length_counted, fewer_counted, length_of_row, never_fits, has_no_length}
use Rattle.recovery_laws.proofs.transfers.lengths_are_counted.Goals as goal

pub returns-clause-counts : goal.returns-clause-counts
returns-clause-counts c M row = length_counted M row

pub returns-clause-fewer : goal.returns-clause-fewer
returns-clause-fewer c M row most k few h = fewer_counted M row most k few h

pub returns-clause-row_alone : goal.returns-clause-row_alone
returns-clause-row_alone c M s = length_of_row M s

pub returns-clause-endless : goal.returns-clause-endless
returns-clause-endless c M row i d n round = never_fits M row i d round n

pub returns-clause-none : goal.returns-clause-none
returns-clause-none c M row i d round = has_no_length M row i d round
