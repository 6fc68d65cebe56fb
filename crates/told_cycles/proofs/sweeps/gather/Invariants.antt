use Rattle.std.proofs.Common.{◌≡◌, ◌-◌, ◌++◌, take, filter}
use Rattle.std.specs.List.{range_with_len}
use Rattle.told_cycles.specs.Sweeping.{is_flagged}
use Rattle.told_cycles.proofs.sweeps.gather.Given as goal

abbrev pub invariant-loop-block : goal.invariant-loop-block
invariant-loop-block l = l.plan.items
    ≡ take l.most (l.initial.plan.items ++ filter (is_flagged l.flags) (range_with_len l.from (l.block - l.from)))
