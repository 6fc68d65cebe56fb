use Rattle.std.proofs.Common.{◌≡◌, ◌≤◌}
use Rattle.frame_pipe.specs.Pipes.{framer_name}
use Rattle.lock_rows.proofs.pipes.take_all.Given as goal

abbrev pub invariant-loop : goal.invariant-loop
invariant-loop l = (l.taken ≤ 64) × (framer_name l.framer ≡ framer_name l.initial.framer)
