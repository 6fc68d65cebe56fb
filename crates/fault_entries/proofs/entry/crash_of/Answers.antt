use Rattle.std.proofs.Common.{refl}
use Rattle.guards_model.specs.Slots.{on_bus}
use Rattle.fault_entries.proofs.entry.crash_of.Goals as goal

pub returns-clause-holds : goal.returns-clause-holds
returns-clause-holds c = c.in_ok-slot.ensures.among on_bus refl
