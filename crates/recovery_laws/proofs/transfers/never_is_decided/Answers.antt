use Rattle.recovery_laws.proofs.Endless.{ends_or_round, round_of, never_fits_after, never_if, never_if_round, ends_at_first, ends_if_first, no_length_if_never, never_of_row}
use Rattle.recovery_laws.proofs.transfers.never_is_decided.Goals as goal

pub returns-clause-never : goal.returns-clause-never
returns-clause-never c M row mission = (never_fits_after M row mission, never_if M row)

pub returns-clause-ends : goal.returns-clause-ends
returns-clause-ends c M row mission = (
  λ ends. let (k, first, few) = ends_at_first M row ends in (k, first),
  λ found. ends_if_first M row mission found.0 found.1,
)

pub returns-clause-round : goal.returns-clause-round
returns-clause-round c M row mission = (
  λ never. let (i, d, round, few) = round_of M row mission never in (i, d, round),
  λ found. never_if_round M row found.0 found.1 found.2,
)

pub returns-clause-search : goal.returns-clause-search
returns-clause-search c M row mission = ends_or_round M row mission

pub returns-clause-no_length : goal.returns-clause-no_length
returns-clause-no_length c M row mission never = no_length_if_never M row mission never

pub returns-clause-row_alone : goal.returns-clause-row_alone
returns-clause-row_alone c M s = never_of_row M s
