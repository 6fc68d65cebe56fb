use Rattle.std.proofs.Common.{◌≡◌, ◌-◌, ◌++◌, take, filter}
use Rattle.std.specs.List.{range_with_len}
use Rattle.dirty_tags.specs.Marks.{is_marked}
use Rattle.dirty_tags.proofs.marks.gather.Given as goal

abbrev pub invariant-loop-block : goal.invariant-loop-block
invariant-loop-block l = l.plan
    ≡ take l.most (l.initial.plan ++ filter (is_marked l.marks) (range_with_len l.from (l.block - l.from)))
