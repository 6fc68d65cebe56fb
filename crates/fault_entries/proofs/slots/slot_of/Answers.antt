use Rattle.std.proofs.Common.{sym}
use Rattle.fault_entries.proofs.SlotNames.{find_passes}
use Rattle.fault_entries.proofs.slots.slot_of.Goals as goal

pub returns-in-Some-clause-among : goal.returns-in-Some-clause-among
returns-in-Some-clause-among c =
    λ test all. find_passes _ test c.args.slots.now all c.in-Some.slot (sym c.in-Some.ensures)
