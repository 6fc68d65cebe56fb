use Rattle.std.proofs.Common.{◌≡◌, ◌+◌, ◌++◌, length}
use Rattle.frame_pipe.specs.Pipes.{sent, copies_taken, known}
use Rattle.frame_pipe.proofs.ends.gather.Given as goal

-- what was taken and what is known to be in the ring are all that was put
abbrev pub invariant-loop : goal.invariant-loop
invariant-loop l = (copies_taken l.framer ++ known l.framer ≡ sent l.fn.feed)
    × (length (known l.framer) + l.counter ≡ l.left)
