use Rattle.std.proofs.Common.{arith}
use Rattle.oral_messages.proofs.Branches.{settled_more, branch_value}
use Rattle.oral_messages.proofs.tree.settle_each.Goals as goal

pub loop-next-preserved : goal.loop-next-preserved
loop-next-preserved c = settled_more c.args.values.now c.args.place c.loop-next.next c.loop-next.branches
    c.settle_branches.result c.loop-next-test.true c.loop-next.invariant c.settle_branches.ensures

pub returns-clause-six : goal.returns-clause-six
returns-clause-six c = c.loop-next.invariant.six

pub returns-clause-settled : goal.returns-clause-settled
unfolding branch_value
returns-clause-settled c = λ k h. c.loop-next.invariant.each k (omega arith)
