use Rattle.std.proofs.Common.{arith}
use Rattle.told_cycles.proofs.ArrayLemmas.{cast_whole}
use Rattle.told_cycles.proofs.work.cast.Goals as goal

pub returns : goal.returns
returns c = cast_whole c.args.words.now c.loop-place.votes c.loop-place.place (omega arith) c.loop-place.invariant.1
