use Rattle.world_laws.proofs.SlotEnding.{slot_ends}
use Rattle.world_laws.proofs.carried.slots_end.Goals as goal

pub returns : goal.returns
returns c = slot_ends
