use Rattle.std.proofs.Common.{◌≡◌}
use Rattle.frame_pipe.specs.Pipes.{framer_name}
use Rattle.sweep_round.proofs.workers.try_often.Given as goal

abbrev pub invariant-loop : goal.invariant-loop
invariant-loop l = framer_name l.framer ≡ framer_name l.initial.framer
