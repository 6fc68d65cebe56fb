use Rattle.std.proofs.Common.{◌≡◌, ◌≤◌, filter, length}
use Rattle.std.specs.List.{range_with_len}
use Rattle.told_cycles.specs.Sweeping.{is_flagged}
use Rattle.told_cycles.proofs.sweeps.count.Given as goal

abbrev pub invariant-loop-block : goal.invariant-loop-block
invariant-loop-block l = record {
  some : l.count ≡ length (filter (is_flagged l.flags) (range_with_len 0 l.block));
  most : l.count ≤ l.block;
}
