use Rattle.std.proofs.Common.{◌≡◌, take}
use Rattle.std.specs.Prelude.{map}
use Rattle.guards_runs.specs.Due.{copy_from}
use Rattle.channel_node.proofs.running_frames.copies.Given as goal

abbrev pub invariant-loop-block : goal.invariant-loop-block
invariant-loop-block l = l.list.items ≡ map (copy_from l.context) (take l.block-index l.blocks)
