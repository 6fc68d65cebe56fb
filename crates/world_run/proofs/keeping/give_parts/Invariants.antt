use Rattle.std.proofs.Common.{Ok}
use Rattle.world_run.specs.Keeping.{HandsOver}
use Rattle.world_run.proofs.Giving.{first_of}
use Rattle.world_run.proofs.keeping.give_parts.Given as goal

-- the parts before this one were written
abbrev pub invariant-loop-place : goal.invariant-loop-place
invariant-loop-place g l =
    HandsOver (g.K.Sink.seen l.fn.out) (g.K.Sink.seen l.out) (first_of l.place l.log.parts) (Ok tt)
