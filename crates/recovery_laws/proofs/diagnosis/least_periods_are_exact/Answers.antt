use Rattle.recovery_laws.proofs.LeastPeriods.{stays_if, reaches_if, decided_stays, decided_reaches, stays_from, reaches_under, none_reaches, needs_decay, least_there}
use Rattle.recovery_laws.proofs.diagnosis.least_periods_are_exact.Goals as goal

pub returns-clause-stays : goal.returns-clause-stays
returns-clause-stays c M period mission = (stays_if M mission period, decided_stays M mission period)

pub returns-clause-reaches : goal.returns-clause-reaches
returns-clause-reaches c M period mission = (reaches_if M mission period, decided_reaches M mission period)

pub returns-clause-from_least : goal.returns-clause-from_least
returns-clause-from_least c M least period mission is few = stays_from M mission least period is few

pub returns-clause-under_least : goal.returns-clause-under_least
returns-clause-under_least c M least period mission is some under = reaches_under M mission least period is some under

pub returns-clause-none : goal.returns-clause-none
returns-clause-none c M period mission is = none_reaches M mission is period

pub returns-clause-there : goal.returns-clause-there
returns-clause-there c M mission =
    (λ found. needs_decay M mission found.0 found.1, λ parts. least_there M mission parts.0 parts.1)
