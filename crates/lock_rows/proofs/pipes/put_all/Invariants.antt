use Rattle.std.proofs.Common.{◌≡◌, length}
use Rattle.frame_pipe.specs.Pipes.{feed_name, sent, capacity}
use Rattle.lock_rows.proofs.pipes.put_all.Given as goal

abbrev pub invariant-loop-block : goal.invariant-loop-block
invariant-loop-block l = (length (sent l.feed) ≡ l.block) × (capacity l.feed ≡ 64)
    × (feed_name l.feed ≡ feed_name l.initial.feed)
