use Rattle.world_laws.proofs.SlotsEntered.{enters_cycle, enters_slot}
use Rattle.world_laws.proofs.cycle.slots_are_entered.Goals as goal

pub returns-clause-first : goal.returns-clause-first
returns-clause-first c = enters_cycle

pub returns-clause-later : goal.returns-clause-later
returns-clause-later c = enters_slot
