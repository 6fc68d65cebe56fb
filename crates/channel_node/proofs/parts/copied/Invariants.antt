use Rattle.std.proofs.Common.{◌≡◌, ◌≤◌, length, take}
use Rattle.channel_node.proofs.parts.copied.Given as goal

abbrev pub invariant-loop-block : goal.invariant-loop-block
invariant-loop-block l = record {
  all : l.copy.items ≡ take l.block-index l.blocks;
  few : length l.copy.items ≤ l.block-index;
}
