use Rattle.std.proofs.Common.{◌∙◌, sym, refl}
use Rattle.oral_messages.proofs.SettledBranches.{settled_here, settled_later, more, few}
use Rattle.oral_messages.proofs.votes.settle.Goals as goal

pub returns-then-more_equal : goal.returns-then-more_equal
returns-then-more_equal c =
    sym (settled_here c.args.values.now c.loop-value.value-index c.value-item.result _ c.loop-value-test.true
    c.value-item.is refl (more _ _ _ c.if-more_equal.true c.more_equal.ensures)) ∙ c.loop-value.invariant

pub loop-value-preserved : goal.loop-value-preserved
loop-value-preserved c =
    settled_later c.args.values.now c.loop-value.value-index c.value-item.result _ c.loop-value-test.true
    c.value-item.is refl (few _ _ _ c.if-more_equal.false c.more_equal.ensures) ∙ c.loop-value.invariant
