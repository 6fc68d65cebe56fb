use Rattle.std.proofs.Common.{◌≡◌, ℕ, ◌||◌, cond, nat_lt}
use Rattle.dirty_tags.specs.Marks.{is_marked}
use Rattle.dirty_tags.proofs.marks.mark.Given as goal

abbrev pub invariant-loop-block : goal.invariant-loop-block
invariant-loop-block l = (b : ℕ) →
    is_marked l.marks b ≡ cond (nat_lt b l.block) (is_marked l.written b || is_marked l.initial.marks b)
    (is_marked l.initial.marks b)
