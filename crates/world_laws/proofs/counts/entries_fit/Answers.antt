use Rattle.world_laws.proofs.EntryCounts.{carried_fit, slot_fits}
use Rattle.world_laws.proofs.counts.entries_fit.Goals as goal

pub returns-clause-carried : goal.returns-clause-carried
returns-clause-carried c = carried_fit

pub returns-clause-slot : goal.returns-clause-slot
returns-clause-slot c = slot_fits
