use Rattle.std.proofs.Common.{arith}
use Rattle.world_laws.proofs.SlotKept.{full_later}
use Rattle.world_laws.proofs.staying.full_stays.Goals as goal

pub returns : goal.returns
returns c = λ M L new n steps late were. full_later M L new n 4 late (omega arith) steps were
